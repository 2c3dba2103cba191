use Rattle.clause_learning.specs.Decisions.{AreVariableTruths}
use Rattle.clause_learning.proofs.choices.assignment_of.Given as goal

abbrev pub invariant-loop-index : goal.invariant-loop-index
invariant-loop-index l = AreVariableTruths l.trail.entries l.index l.truths.items
