use Rattle.tsl_reader.specs.Naming.{uses}
use Rattle.spec_syntax.specs.SyntaxView.{formula_syntax}
use Rattle.base_library.proofs.Lists.{part_is_few}
use Rattle.tsl_reader.proofs.uses.add_section.Goals as goal

pub add_formula-requires : goal.add_formula-requires
add_formula-requires c =
    rw (c.formula-item.is, c.deref-formula-items.ensures.value)
    (part_is_few uses formula_syntax c.args.section.now.formulas.items c.loop-formula.formula-index _ _ c.requires
    (rw c.deref-formula-items.ensures.value at c.loop-formula-test.true))
