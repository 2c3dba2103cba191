-- How a run ends: its status, whether the source failed, and what stands in the sinks.
use Rattle.std.specs.Prelude.{ℕ, List}
use Rattle.tsl_io.specs.Effects.{Effect}
use Rattle.tool_io.specs.declared.status.Status.{Status}
use Rattle.tool_io.specs.declared.reply.Reply.{Reply}
use Rattle.tool_io.specs.Ends.{IsReplyOf, EndsIn}
use Rattle.tsl_tool.specs.Outcome.{Outcome}

-- The reply is an outcome on the bytes of the source: on those that it tells, where it tells some, and on some bytes
-- where it tells nothing.
abbrev pub IsReplyTo : List (List ℕ) → Effect → Reply → Type 0
IsReplyTo words source reply = IsReplyOf (Outcome words) source reply

-- The reply was told whole or cut off, or memory ran out.
abbrev pub Ends : List (List ℕ) → Effect → Effect → Effect → Status → Type 0
Ends words source out err result = EndsIn (IsReplyTo words source) out err result
