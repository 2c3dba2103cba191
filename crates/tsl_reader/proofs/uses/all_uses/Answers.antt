use Rattle.tsl_reader.specs.Naming.{section_uses}
use Rattle.spec_syntax.specs.SyntaxView.{section_syntax}
use Rattle.base_library.proofs.Lists.{part_is_few}
use Rattle.tsl_reader.proofs.uses.all_uses.Goals as goal

pub add_section-requires : goal.add_section-requires
add_section-requires c =
    rw c.section-item.is (part_is_few section_uses section_syntax c.args.sections.now c.loop-section.section-index _ _ c.requires
    c.loop-section-test.true)
