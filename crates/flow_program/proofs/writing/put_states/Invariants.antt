-- What is written and what is left make the whole.
use Rattle.std.proofs.Common.{◌≡◌, ◌++◌, drop}
use Rattle.flow_program.specs.ProgramText.{states_text}
use Rattle.flow_program.proofs.writing.put_states.Given as goal

abbrev pub invariant-loop-state : goal.invariant-loop-state
invariant-loop-state l = l.out.items ++ states_text l.state (drop l.state l.states) ≡ l.fn.out.items ++ states_text 0 l.states
