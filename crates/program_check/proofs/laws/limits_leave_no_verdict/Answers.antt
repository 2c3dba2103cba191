use Rattle.program_check.proofs.PassedLimits.{no_verdict}
use Rattle.program_check.proofs.laws.limits_leave_no_verdict.Goals as goal

pub returns : goal.returns
returns c = no_verdict
