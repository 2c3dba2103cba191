use Rattle.base_library.proofs.MadeLists.{image_passes}
use Rattle.program_listing.specs.Listing.{listed_line}
use Rattle.program_listing.specs.internal.NamesStand.{listed_line_stands}
use Rattle.flow_program.proofs.rules.are_listed.Goals as goal

pub is_cell_within-requires : goal.is_cell_within-requires
is_cell_within-requires c =
    image_passes listed_line (listed_line_stands c.args.text.now) _ c.requires c.loop-place-test.true c.index-updates-place.is
