use Rattle.std.proofs.Common.{◌≡◌, ◌+◌, ◌-◌, ◌/◌, ◌⊎◌, length, Contains}
use Rattle.std.specs.Prelude.{◌↔◌}
use Rattle.annotation_check.specs.declared.stepping.Step.{Step}
use Rattle.annotation_check.specs.internal.Steps.{IsMatched, IsStepBelow}
use Rattle.annotation_check.proofs.stepping.add_steps.Given as goal

-- the steps so far are those that were there, and those of the bits so far
abbrev pub invariant-loop-bit : goal.invariant-loop-bit
invariant-loop-bit l =
    (length l.matches ≡ (length l.moves.letters.items + 63) / 64) × IsMatched l.moves.letters.items l.edge.cube.care l.edge.cube.want l.matches
    × ((t : Step) → Contains l.steps.items t
    ↔ (Contains l.fn.steps.items t ⊎ IsStepBelow l.matches l.moves.next.items l.edge.to l.edge.rejecting l.from t))

abbrev pub decreases-loop-bit : goal.decreases-loop-bit
decreases-loop-bit l = length l.moves.letters.items - l.from
