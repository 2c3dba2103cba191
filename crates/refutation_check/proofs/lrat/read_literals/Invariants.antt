use Rattle.std.proofs.Common.{◌≡◌, ◌≤◌, ℕ, [], true, map, length}
use Rattle.std.specs.List.{list_all}
use Rattle.clause_core.specs.Literals.{signed_number_of}
use Rattle.refutation_check.specs.LogText.{is_literal}
use Rattle.tsl_text.specs.Lines.{words}
use Rattle.refutation_check.specs.internal.Reading.{with_literals}
use Rattle.refutation_check.proofs.lrat.read_literals.Given as goal

abbrev pub invariant-loop-word : goal.invariant-loop-word
invariant-loop-word l = record {
  same : (name : ℕ) → with_literals name l.literals.items (words l.rest) ≡ with_literals name [] (words l.line);
  literals : list_all is_literal (map signed_number_of l.literals.items) ≡ true;
  within : length l.rest ≤ length l.line;
}

abbrev pub decreases-loop-word : goal.decreases-loop-word
decreases-loop-word l = length l.rest
