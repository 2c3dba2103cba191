-- The first place among the states that are left is the first of all.
use Rattle.std.proofs.Common.{◌≡◌, drop}
use Rattle.flow_program.specs.Rules.{first_place, is_nowhere}
use Rattle.flow_program.proofs.rules.start_line.Given as goal

abbrev pub invariant-loop-number : goal.invariant-loop-number
invariant-loop-number l =
    first_place (is_nowhere l.nodes) l.number (drop l.number l.states) ≡ first_place (is_nowhere l.nodes) 0 l.states
