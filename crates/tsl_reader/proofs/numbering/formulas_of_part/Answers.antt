use Rattle.std.proofs.Common.{map}
use Rattle.std.proofs.lemmas.Result.{IfOk-weaker}
use Rattle.tsl_terms.specs.FormulaTree.{formula_tree, formula_trees}
use Rattle.tsl_reader.proofs.NumberLemmas.{section_some, section_more, sections_all}
use Rattle.tsl_reader.proofs.numbering.formulas_of_part.Goals as goal

pub add_section-requires : goal.add_section-requires
add_section-requires c =
    rw c.section-item.is
    (section_some c.args.names.now c.args.part c.args.sections.now c.loop-section.section-index _
    (map formula_tree c.loop-section.trees.items) _
    c.loop-section-test.true c.loop-section.invariant c.requires)

pub loop-section-preserved : goal.loop-section-preserved
loop-section-preserved c =
    section_more c.args.names.now c.args.part c.args.sections.now c.loop-section.section-index _
    (map formula_tree c.loop-section.trees.items) _ _
    c.loop-section-test.true (rw c.section-item.is at c.in_ok-add_section.ensures) c.loop-section.invariant

pub returns : goal.returns
returns c =
    IfOk-weaker c.from_vec.result _ _
    (λ list is. sections_all c.args.names.now c.args.part c.args.sections.now c.loop-section.section-index
    (map formula_tree c.loop-section.trees.items) _ (formula_trees list)
    c.loop-section-test.false c.loop-section.invariant is)
    c.from_vec.ensures
