-- What the replies of `synth` promise.
use Rattle.std.proofs.Common.{ℕ, List, sym, subst}
use Rattle.command_words.specs.declared.task.SynthSizes.{SynthSizes}
use Rattle.command_words.specs.declared.task.Task.TheVariants.{Synth}
use Rattle.tool_io.specs.declared.status.Status.{Status}
use Rattle.tool_io.specs.declared.reply.Reply.{Reply}
use Rattle.tool_io.proofs.Replying.{status_of}
use Rattle.synthesis_commands.specs.Synth.{SynthOutcome, refused, of_spec, written, told_none, spent, too_large}
use Rattle.tsl_tool.specs.Promise.{Promise}
use Rattle.tsl_tool.specs.Tasks.{search_sizes}
use Rattle.tsl_tool.proofs.FaultPromises.{fault_keeps}

pub synth_keeps : (sizes : SynthSizes) (bytes : List ℕ) (reply : Reply) → SynthOutcome (search_sizes sizes) bytes reply →
    Promise (Synth sizes) reply.status bytes reply.text
synth_keeps sizes bytes reply (refused fault h is) = fault_keeps (Synth sizes) fault bytes reply is
synth_keeps sizes bytes reply (of_spec spec spells (written done h)) =
    subst (λ (s : Status). Promise (Synth sizes) s bytes reply.text) (sym done) (spec, spells, h)
synth_keeps sizes bytes reply (of_spec spec spells (told_none is h)) =
    subst (λ (s : Status). Promise (Synth sizes) s bytes reply.text) (sym is) (spec, spells, h)
synth_keeps sizes bytes reply (of_spec spec spells (spent is h)) =
    subst (λ (s : Status). Promise (Synth sizes) s bytes reply.text) (sym is) (spec, spells, h)
synth_keeps sizes bytes reply (of_spec spec spells (too_large limit rounds h is)) =
    subst (λ (s : Status). Promise (Synth sizes) s bytes reply.text) (sym (status_of is)) tt
