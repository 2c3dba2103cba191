use Rattle.flow_program.proofs.ReadingLaws.{spelled_is_read}
use Rattle.flow_program.proofs.laws.spelled_programs_are_read.Goals as goal

pub returns : goal.returns
returns c = spelled_is_read
