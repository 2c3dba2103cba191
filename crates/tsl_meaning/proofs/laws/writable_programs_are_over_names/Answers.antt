use Rattle.tsl_meaning.proofs.Naming.{written_program}
use Rattle.tsl_meaning.proofs.laws.writable_programs_are_over_names.Goals as goal

pub returns : goal.returns
returns c = written_program
