use Rattle.flow_program.proofs.ReadingLaws.{one_reading}
use Rattle.flow_program.proofs.laws.one_reading.Goals as goal

pub returns : goal.returns
returns c = one_reading
