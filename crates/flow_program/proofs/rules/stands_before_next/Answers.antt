use Rattle.std.proofs.Common.{◌<◌, length, ◌+◌, arith}
use Rattle.base_library.proofs.MadeLists.{image_passes}
use Rattle.tsl_terms.specs.Name.{texts}
use Rattle.program_listing.specs.Listing.{listed_line}
use Rattle.program_listing.specs.internal.NamesStand.{listed_line_stands}
use Rattle.flow_program.proofs.RuleLemmas.{rises_last}
use Rattle.flow_program.proofs.rules.stands_before_next.Goals as goal

pub stands_before-requires-clause-update : goal.stands_before-requires-clause-update
stands_before-requires-clause-update c =
    image_passes listed_line (listed_line_stands c.args.text.now) _ c.requires.updates c.requires.place c.index-updates-place.is

pub stands_before-requires-clause-next : goal.stands_before-requires-clause-next
stands_before-requires-clause-next c =
    let within : c.args.place + 1 < length c.args.updates.now = omega arith in
    image_passes listed_line (listed_line_stands c.args.text.now) _ c.requires.updates within c.index-updates-place-2.is

pub returns-then-place-updates : goal.returns-then-place-updates
returns-then-place-updates c = rises_last c.args.text.now (texts c.args.cells.now) c.args.updates.now c.args.place c.if-place-updates.true
