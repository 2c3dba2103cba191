use Rattle.std.proofs.Common.{◌≡◌, ◌+◌, drop}
use Rattle.refutation_check.specs.Checking.{refused_hint}
use Rattle.refutation_check.specs.internal.Accepted.{known_after}
use Rattle.refutation_check.proofs.checker.refused_hint.Given as goal

abbrev pub invariant-loop-hint : goal.invariant-loop-hint
invariant-loop-hint l = record {
  variables : l.marks.variables ≡ l.cnf.variables;
  position : l.position ≡ 1 + l.hint-index;
  same : refused_hint (known_after l.cnf.clauses l.accepted) l.marks.literals l.position (drop l.hint-index l.hints)
      ≡ refused_hint (known_after l.cnf.clauses l.accepted) l.fn.marks.literals 1 l.hints;
}
