use Rattle.checking_commands.proofs.RecheckLaws.{yes_exactly, no_exactly}
use Rattle.tsl_tool.proofs.laws.verdicts_are_those_of_logs.Goals as goal

pub returns : goal.returns
returns c = record { yes = yes_exactly; no = no_exactly }
