use Rattle.std.proofs.Common.{arith}
use Rattle.program_listing.specs.Listing.{listing_tree}
use Rattle.program_listing.proofs.ListingFacts.{listing_stands}
use Rattle.flow_program.proofs.UsesStand.{uses_and_lines}
use Rattle.flow_program.proofs.reading.read_program.Goals as goal

pub program_of-requires-clause-room : goal.program_of-requires-clause-room
program_of-requires-clause-room c =
    omega (arith, uses_and_lines c.args.text.now (listing_tree c.in-Ok.listing) c.in-Ok.ensures.ok, c.requires.room)

pub program_of-requires-clause-lines : goal.program_of-requires-clause-lines
program_of-requires-clause-lines c =
    omega (arith, uses_and_lines c.args.text.now (listing_tree c.in-Ok.listing) c.in-Ok.ensures.ok, c.requires.room)

pub program_of-requires-clause-stands : goal.program_of-requires-clause-stands
program_of-requires-clause-stands c = listing_stands c.args.text.now (listing_tree c.in-Ok.listing) c.in-Ok.ensures.ok
