use Rattle.judged_controllers.proofs.JudgedProgramsMeet.{judged_program_meets}
use Rattle.judged_controllers.proofs.laws.judged_programs_meet.Goals as goal

pub returns : goal.returns
returns c = judged_program_meets
