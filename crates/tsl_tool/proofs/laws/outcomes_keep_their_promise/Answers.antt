use Rattle.tsl_tool.proofs.OutcomeLaws.{keeps_promise}
use Rattle.tsl_tool.proofs.laws.outcomes_keep_their_promise.Goals as goal

pub returns : goal.returns
returns c = keeps_promise
