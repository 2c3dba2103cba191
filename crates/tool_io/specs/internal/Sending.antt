-- Internal: only private functions of this crate use these words.
use Rattle.std.specs.Prelude.{◌≡◌}
use Rattle.tool_io.specs.declared.status.Status.{Status}
use Rattle.tool_io.specs.declared.status.Status.TheVariants.{WriteFault}
use Rattle.tool_io.specs.declared.reply.Reply.{Reply}
use Rattle.tsl_io.specs.Effects.{Effect, IsWhole, IsCutOff}

-- The status of a reply and its whole text, or a write fault and some first bytes of it.
pub data IsSent (reply : Reply) (sink : Effect) (result : Status) : Type 0 where
  sent_whole : result ≡ reply.status → IsWhole reply.text sink → IsSent reply sink result
  sent_in_part : result ≡ WriteFault → IsCutOff reply.text sink → IsSent reply sink result
