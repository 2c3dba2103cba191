use Rattle.std.proofs.Common.{◌≡◌, map, drop}
use Rattle.tsl_terms.specs.FormulaTree.{formula_tree}
use Rattle.tsl_reader.specs.Naming.{numbered_list}
use Rattle.tsl_reader.specs.Numbering.{formulas_after}
use Rattle.spec_syntax.specs.SyntaxView.{formula_syntax}
use Rattle.tsl_reader.proofs.numbering.add_formulas.Given as goal

-- the formulas so far, and then those that are left
abbrev pub invariant-loop-formula : goal.invariant-loop-formula
invariant-loop-formula l =
    formulas_after (map formula_tree l.trees.items) (numbered_list l.names (map formula_syntax (drop l.formula-index l.formulas)))
    ≡ formulas_after (map formula_tree l.fn.trees.items) (numbered_list l.names (map formula_syntax l.formulas))
