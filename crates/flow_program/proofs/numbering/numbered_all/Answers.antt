use Rattle.base_library.proofs.MadeLists.{image_passes}
use Rattle.flow_program.proofs.numbering.numbered_all.Goals as goal

pub with_numbers-requires-clause-stands : goal.with_numbers-requires-clause-stands
with_numbers-requires-clause-stands g c =
    image_passes g.P.GetsNumbers.tree (g.P.GetsNumbers.stands c.args.text.now) _ c.requires.stand c.loop-part-test.true c.part-item.is
