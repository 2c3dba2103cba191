use Rattle.std.proofs.Common.{◌≡◌, ◌++◌, map, take}
use Rattle.tsl_terms.specs.FormulaTree.{formula_tree}
use Rattle.tsl_terms.specs.WindowTree.{listed_tree, equated_tree, listed_formula, equated_formula}
use Rattle.tsl_terms.proofs.window_formulas.formulas_listed.Given as goal

-- the formulas of the updates, and of the equalities so far
abbrev pub invariant-loop-equality : goal.invariant-loop-equality
invariant-loop-equality l = map formula_tree l.formulas.items
    ≡ map listed_formula (map listed_tree l.fn.window.updates)
    ++ map equated_formula (map equated_tree (take l.equality-index l.equality-items))
