use Rattle.program_listing.proofs.LinesRead.{set_shrinks}
use Rattle.program_listing.proofs.line.assignment.Goals as goal

pub repeated-requires : goal.repeated-requires
repeated-requires c = set_shrinks
