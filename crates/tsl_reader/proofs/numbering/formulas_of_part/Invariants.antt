use Rattle.std.proofs.Common.{◌≡◌, map, drop}
use Rattle.tsl_terms.specs.FormulaTree.{formula_tree}
use Rattle.tsl_reader.specs.Naming.{numbered_list, formulas_of_part}
use Rattle.tsl_reader.specs.Numbering.{formulas_after}
use Rattle.spec_syntax.specs.SyntaxView.{section_syntax}
use Rattle.tsl_reader.proofs.numbering.formulas_of_part.Given as goal

-- the formulas so far, and then those of the sections that are left
abbrev pub invariant-loop-section : goal.invariant-loop-section
invariant-loop-section l =
    formulas_after (map formula_tree l.trees.items)
    (numbered_list l.names (formulas_of_part l.part (map section_syntax (drop l.section-index l.sections))))
    ≡ numbered_list l.names (formulas_of_part l.part (map section_syntax l.sections))
