use Rattle.base_library.proofs.MadeLists.{image_passes}
use Rattle.program_listing.specs.Listing.{node_line}
use Rattle.program_listing.specs.internal.NamesStand.{node_line_stands}
use Rattle.flow_program.proofs.rules.updates_line.Goals as goal

pub breaks_updates-requires-clause-node : goal.breaks_updates-requires-clause-node
breaks_updates-requires-clause-node c =
    image_passes node_line (node_line_stands c.args.text.now) _ c.requires.nodes c.loop-number-test.true c.index-nodes-number.is
