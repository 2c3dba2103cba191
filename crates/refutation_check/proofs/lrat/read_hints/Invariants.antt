use Rattle.std.proofs.Common.{◌≡◌, ◌+◌, ◌≤◌, ◌<◌, ℕ, [], List, All, length}
use Rattle.clause_core.specs.Literals.{Lit}
use Rattle.tsl_text.specs.Lines.{words}
use Rattle.refutation_check.specs.internal.Reading.{with_hints}
use Rattle.refutation_check.proofs.lrat.read_hints.Given as goal

abbrev pub invariant-loop-word : goal.invariant-loop-word
invariant-loop-word l = record {
  same : (name : ℕ) (literals : List Lit) →
      with_hints name literals l.hints.items (words l.rest) ≡ with_hints name literals [] (words l.line);
  positive : All (λ hint. 0 < hint) l.hints.items;
  within : length l.hints.items + length l.rest ≤ length l.line;
}

abbrev pub decreases-loop-word : goal.decreases-loop-word
decreases-loop-word l = length l.rest
