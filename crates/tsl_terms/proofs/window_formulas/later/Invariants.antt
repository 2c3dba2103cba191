use Rattle.std.proofs.Common.{◌≡◌}
use Rattle.tsl_terms.specs.FormulaTree.{formula_tree}
use Rattle.tsl_terms.specs.WindowTree.{later}
use Rattle.tsl_terms.proofs.window_formulas.later.Given as goal

-- as many steps later as were counted
abbrev pub invariant-loop : goal.invariant-loop
invariant-loop l = formula_tree l.postponed ≡ later l.counter (formula_tree l.fn.formula)
