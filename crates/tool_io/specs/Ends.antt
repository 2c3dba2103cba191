-- How a run ends: its status, whether the source failed, and what stands in the sinks.
use Rattle.std.specs.Prelude.{◌≡◌, ℕ, List, cond}
use Rattle.tsl_io.specs.Effects.{Effect, HasFailed, NeverFailed, IsUntouched, IsWhole, IsCutOff, ContentsAre}
use Rattle.tool_io.specs.declared.status.Status.{Status}
use Rattle.tool_io.specs.declared.status.Status.TheVariants.{Done, No, Usage, Reading, Large, Spent, ReadFault, WriteFault, Memory}
use Rattle.tool_io.specs.declared.reply.Reply.{Reply}
use Rattle.tool_io.specs.Statuses.{is_answer}

-- the sink that the text of a status goes to, and the other one
abbrev pub sink_of : Status → Effect → Effect → Effect
sink_of status out err = cond (is_answer status) out err

abbrev pub other_sink : Status → Effect → Effect → Effect
other_sink status out err = cond (is_answer status) err out

-- the source failed where the reply says so, and nowhere else
abbrev pub CountsReads : Status → Effect → Type 0
CountsReads ReadFault source = HasFailed source
CountsReads _ source = NeverFailed source

-- The reply is an outcome on the bytes of the source: on those that it tells, where it tells some, and on some bytes
-- where it tells nothing.
pub record IsReplyOf (Outcome : List ℕ → Reply → Type 0) (source : Effect) (reply : Reply) : Type 0 where
  pub bytes : List ℕ
  pub told : ContentsAre source.old bytes
  pub outcome : Outcome bytes reply
  pub count : CountsReads reply.status source

-- the end of a run that makes one of these replies
pub data EndsIn (IsReply : Reply → Type 0) (out err : Effect) (result : Status) : Type 0 where
  -- the text of a reply was added whole to the sink of its status, and the other sink is as before
  answered : (reply : Reply) → IsReply reply → result ≡ reply.status →
      IsWhole reply.text (sink_of reply.status out err) → IsUntouched (other_sink reply.status out err) →
      EndsIn IsReply out err result
  -- some first bytes of the text of a reply were added to the sink of its status, where a call failed, and the other sink is as before
  cut_off : (reply : Reply) → IsReply reply → result ≡ WriteFault →
      IsCutOff reply.text (sink_of reply.status out err) → IsUntouched (other_sink reply.status out err) →
      EndsIn IsReply out err result
  -- nothing was written
  out_of_memory : result ≡ Memory → IsUntouched out → IsUntouched err → EndsIn IsReply out err result

-- what was written by a run with this status was handed on
abbrev pub HandedOn : Status → Type 0 → Type 0 → Type 0
HandedOn Done out err = out
HandedOn No out err = out
HandedOn Spent out err = out
HandedOn Usage out err = err
HandedOn Reading out err = err
HandedOn Large out err = err
HandedOn ReadFault out err = err
HandedOn WriteFault out err = Unit {0}
HandedOn Memory out err = Unit {0}
