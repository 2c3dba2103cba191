use Rattle.std.proofs.Common.{◌≡◌, ◌++◌, map, length}
use Rattle.clause_core.specs.Literals.{negation}
use Rattle.clause_core.specs.Clauses.{IsOver}
use Rattle.refutation_check.proofs.marks.Marks.falsify.Given as goal

abbrev pub invariant-loop-last : goal.invariant-loop-last
invariant-loop-last l = record {
  variables : l.self.variables ≡ l.fn.self.variables;
  over : IsOver l.self.variables l.rest;
  made : map negation l.rest ++ l.self.literals ≡ map negation l.clause ++ l.fn.self.literals;
}

abbrev pub decreases-loop-last : goal.decreases-loop-last
decreases-loop-last l = length l.rest
