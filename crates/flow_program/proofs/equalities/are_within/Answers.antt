use Rattle.base_library.proofs.MadeLists.{image_passes}
use Rattle.program_listing.specs.Listing.{placed_line}
use Rattle.program_listing.specs.internal.NamesStand.{placed_line_stands}
use Rattle.flow_program.proofs.equalities.are_within.Goals as goal

pub is_equality_within-requires : goal.is_equality_within-requires
is_equality_within-requires c =
    image_passes placed_line (placed_line_stands c.args.text.now) _ c.requires c.loop-equality-test.true c.equality-item.is
