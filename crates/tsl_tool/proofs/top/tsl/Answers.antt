use Rattle.std.proofs.lemmas.Result.{IfOk-weaker}
use Rattle.tool_io.proofs.Ending.{ends_with}
use Rattle.tsl_tool.proofs.EndLaws.{reply_says, answer_promises}
use Rattle.tsl_tool.proofs.top.tsl.Goals as goal

pub tell-requires : goal.tell-requires
tell-requires g c = IfOk-weaker _ _ _ (reply_says _ _) c.reply_to.ensures.replies

pub returns-clause-answers : goal.returns-clause-answers
returns-clause-answers g c = ends_with _ c.reply_to.ensures.replies c.tell.ensures.ends

pub returns-clause-promises : goal.returns-clause-promises
returns-clause-promises g c = answer_promises _ _ _ _ _ (ends_with _ c.reply_to.ensures.replies c.tell.ensures.ends)
