-- How a run ends: its status, whether the source failed, and what stands in the sinks.
use Rattle.std.specs.Prelude.{ℕ, List}
use Rattle.tsl_io.specs.Effects.{Effect}
use Rattle.tool_io.specs.declared.status.Status.{Status}
use Rattle.tool_io.specs.declared.reply.Reply.{Reply}
use Rattle.tool_io.specs.Ends.{IsReplyOf, EndsIn, HandedOn}
use Rattle.solve_tool.specs.Outcome.{SolverOutcome}

-- The reply is an outcome on the bytes of the source: on those that it tells, where it tells some, and on some bytes
-- where it tells nothing.
abbrev pub IsSolverReply : List (List ℕ) → Effect → Reply → Type 0
IsSolverReply words source reply = IsReplyOf (SolverOutcome words) source reply

abbrev pub SolverEnds : List (List ℕ) → Effect → Effect → Effect → Status → Type 0
SolverEnds words source out err result = EndsIn (IsSolverReply words source) out err result

-- what was written by a run with this status was handed on
abbrev pub WasFlushed : Status → Type 0 → Type 0 → Type 0
WasFlushed status out err = HandedOn status out err
