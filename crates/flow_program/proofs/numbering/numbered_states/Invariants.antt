-- The numbers so far, and then those of the states that are left.
use Rattle.std.proofs.Common.{◌≡◌, map, drop}
use Rattle.base_library.specs.Options.{all_there}
use Rattle.std.specs.Prelude.{◌++◌, option_map}
use Rattle.flow_program.specs.internal.Numbering.{small}
use Rattle.flow_program.proofs.numbering.numbered_states.Given as goal

abbrev pub invariant-loop-state : goal.invariant-loop-state
invariant-loop-state l =
    option_map (λ ys. l.numbers ++ ys) (all_there (map small (drop l.state-index l.states))) ≡ all_there (map small l.states)
