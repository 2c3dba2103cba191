use Rattle.flow_program.proofs.ReadingLaws.{one_program}
use Rattle.flow_program.proofs.laws.one_program.Goals as goal

pub returns : goal.returns
returns c = one_program
