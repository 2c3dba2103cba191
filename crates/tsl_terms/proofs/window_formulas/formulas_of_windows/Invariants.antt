use Rattle.std.proofs.Common.{◌≡◌, map, take}
use Rattle.tsl_terms.specs.FormulaTree.{formula_tree}
use Rattle.tsl_terms.specs.WindowTree.{window_tree, window_formula_of}
use Rattle.tsl_terms.proofs.window_formulas.formulas_of_windows.Given as goal

-- the formulas of those so far
abbrev pub invariant-loop-window : goal.invariant-loop-window
invariant-loop-window l =
    map formula_tree l.formulas.items ≡ map window_formula_of (map window_tree (take l.window-index l.windows))
