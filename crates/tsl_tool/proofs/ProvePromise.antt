-- What the replies of `prove` promise.
use Rattle.std.proofs.Common.{ℕ, List, sym, subst}
use Rattle.command_words.specs.declared.task.ProveSizes.{ProveSizes}
use Rattle.command_words.specs.declared.task.Task.TheVariants.{Prove}
use Rattle.tool_io.specs.declared.status.Status.{Status}
use Rattle.tool_io.specs.declared.reply.Reply.{Reply}
use Rattle.command_faults.specs.Refusals.{fault_at_limit}
use Rattle.synthesis_commands.specs.Prove.{ProveOutcome, refused, of_spec, proved, satisfiable, spent, too_large}
use Rattle.tsl_tool.specs.Promise.{Promise}
use Rattle.tsl_tool.proofs.FaultPromises.{fault_keeps}

pub prove_keeps : (sizes : ProveSizes) (bytes : List ℕ) (reply : Reply) → ProveOutcome sizes bytes reply →
    Promise (Prove sizes) reply.status bytes reply.text
prove_keeps sizes bytes reply (refused fault h is) = fault_keeps (Prove sizes) fault bytes reply is
prove_keeps sizes bytes reply (of_spec spec spells (proved done h)) =
    subst (λ (s : Status). Promise (Prove sizes) s bytes reply.text) (sym done) (spec, spells, h)
prove_keeps sizes bytes reply (of_spec spec spells (satisfiable is h)) =
    subst (λ (s : Status). Promise (Prove sizes) s bytes reply.text) (sym is) (spec, spells, h)
prove_keeps sizes bytes reply (of_spec spec spells (spent is h)) =
    subst (λ (s : Status). Promise (Prove sizes) s bytes reply.text) (sym is) (spec, spells, h)
prove_keeps sizes bytes reply (of_spec spec spells (too_large limit h is)) =
    fault_keeps (Prove sizes) (fault_at_limit limit) bytes reply is
