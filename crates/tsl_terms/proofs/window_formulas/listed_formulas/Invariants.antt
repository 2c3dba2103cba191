use Rattle.std.proofs.Common.{◌≡◌, map, take}
use Rattle.tsl_terms.specs.FormulaTree.{formula_tree}
use Rattle.tsl_terms.specs.WindowTree.{listed_tree, listed_formula}
use Rattle.tsl_terms.proofs.window_formulas.listed_formulas.Given as goal

-- the formulas of those so far
abbrev pub invariant-loop-update : goal.invariant-loop-update
invariant-loop-update l =
    map formula_tree l.formulas.items ≡ map listed_formula (map listed_tree (take l.update-index l.updates))
