-- The list that is left is no deeper than the one that was handed in.
use Rattle.std.proofs.Common.{◌≤◌}
use Rattle.tsl_terms.specs.declared.formula.FormulaList.{size-FormulaList}
use Rattle.tsl_terms.proofs.+formulas.Given as goal

abbrev pub invariant-formula::FormulaList::drop-loop-self :
    goal.invariant-formula::FormulaList::drop-loop-self
invariant-formula::FormulaList::drop-loop-self l = size-FormulaList l.self ≤ size-FormulaList l.fn.self
