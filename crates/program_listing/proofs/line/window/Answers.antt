use Rattle.program_listing.proofs.LinesRead.{listed_shrinks, equated_shrinks}
use Rattle.program_listing.proofs.line.window.Goals as goal

pub repeated-requires : goal.repeated-requires
repeated-requires c = listed_shrinks

pub repeated-requires-2 : goal.repeated-requires-2
repeated-requires-2 c = equated_shrinks
