use Rattle.std.proofs.Common.{◌≡◌, length, reverse}
use Rattle.refutation_check.proofs.Marking.{IsAtMost}
use Rattle.refutation_check.proofs.marks.Marks.clear.Given as goal

abbrev pub invariant-loop-literal : goal.invariant-loop-literal
invariant-loop-literal l = record {
  variables : l.self-inside.variables ≡ l.initial.self-inside.variables;
  table : IsAtMost l.self-inside.variables l.self-inside.truths.items (reverse l.self-inside.literals.items);
}

abbrev pub decreases-loop-literal : goal.decreases-loop-literal
decreases-loop-literal l = length l.self-inside.literals.items
