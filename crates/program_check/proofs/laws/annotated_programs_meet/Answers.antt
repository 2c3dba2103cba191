use Rattle.program_check.proofs.AnnotatedRuns.{annotated_program_meets}
use Rattle.program_check.proofs.laws.annotated_programs_meet.Goals as goal

pub returns : goal.returns
returns c = annotated_program_meets
