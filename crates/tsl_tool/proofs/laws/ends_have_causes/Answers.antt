use Rattle.tsl_tool.proofs.EndLaws.{causes}
use Rattle.tsl_tool.proofs.laws.ends_have_causes.Goals as goal

pub returns : goal.returns
returns c = causes
