-- What the replies of `gen` promise.
use Rattle.std.proofs.Common.{ℕ, List, sym, subst}
use Rattle.command_words.specs.declared.task.Task.TheVariants.{Gen}
use Rattle.tool_io.specs.declared.status.Status.{Status}
use Rattle.tool_io.specs.declared.reply.Reply.{Reply}
use Rattle.command_faults.specs.Refusals.{fault_at_limit}
use Rattle.synthesis_commands.specs.Gen.{GenOutcome, found, none, spent, too_large}
use Rattle.tsl_tool.specs.Promise.{Promise}
use Rattle.tsl_tool.proofs.FaultPromises.{fault_keeps}

pub gen_keeps : (n : ℕ) (bytes : List ℕ) (reply : Reply) → GenOutcome n reply → Promise (Gen n) reply.status bytes reply.text
gen_keeps n bytes reply (spec, spells, found done h) =
    subst (λ (s : Status). Promise (Gen n) s bytes reply.text) (sym done) (spec, spells, h)
gen_keeps n bytes reply (spec, spells, none is h) =
    subst (λ (s : Status). Promise (Gen n) s bytes reply.text) (sym is) (spec, spells, h)
gen_keeps n bytes reply (spec, spells, spent is h) =
    subst (λ (s : Status). Promise (Gen n) s bytes reply.text) (sym is) (spec, spells, h)
gen_keeps n bytes reply (spec, spells, too_large limit h is) = fault_keeps (Gen n) (fault_at_limit limit) bytes reply is
