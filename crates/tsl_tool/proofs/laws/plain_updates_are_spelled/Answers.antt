use Rattle.tsl_tool.proofs.PlainUpdates.{plain_is_spelled}
use Rattle.tsl_tool.proofs.laws.plain_updates_are_spelled.Goals as goal

pub returns : goal.returns
returns c = plain_is_spelled
