use Rattle.base_library.proofs.MadeLists.{image_passes}
use Rattle.program_listing.specs.Listing.{window_line}
use Rattle.program_listing.specs.internal.NamesStand.{window_line_stands}
use Rattle.flow_program.proofs.rules.window_line.Goals as goal

pub breaks_window-requires : goal.breaks_window-requires
breaks_window-requires c =
    image_passes window_line (window_line_stands c.args.text.now) _ c.requires.windows c.loop-number-test.true c.index-windows-number.is
