-- Only an answer promises anything, and no fault is one.
use Rattle.std.proofs.Common.{◌≡◌, ℕ, false, List, ap, ◌∙◌}
use Rattle.tsl_report.specs.declared.fault.Fault.{Fault}
use Rattle.command_words.specs.declared.task.Task.{Task}
use Rattle.command_words.specs.declared.task.Task.TheVariants.{Synth, Check, Run, Prove, Recheck, Gen, Circuit, Automaton, Accepts}
use Rattle.tool_io.specs.declared.status.Status.{Status}
use Rattle.tool_io.specs.declared.status.Status.TheVariants.{Done, No, Spent}
use Rattle.tool_io.specs.declared.reply.Reply.{Reply}
use Rattle.tsl_tool.specs.Promise.{Promise}
use Rattle.tool_io.specs.Statuses.{is_answer}
use Rattle.command_faults.specs.Replies.{fault_reply}
use Rattle.command_faults.proofs.Statuses.{fault_is_no_answer}
use Rattle.tool_io.proofs.Replying.{status_of}

no_answer_promises : (task : Task) (status : Status) (bytes text : List ℕ) → is_answer status ≡ false → Promise task status bytes text
no_answer_promises (Synth sizes) Done bytes text none = cc
no_answer_promises (Synth sizes) No bytes text none = cc
no_answer_promises (Synth sizes) Spent bytes text none = cc
no_answer_promises (Synth sizes) _ bytes text none = tt
no_answer_promises (Check bound) Done bytes text none = cc
no_answer_promises (Check bound) No bytes text none = cc
no_answer_promises (Check bound) _ bytes text none = tt
no_answer_promises Run Done bytes text none = cc
no_answer_promises Run No bytes text none = cc
no_answer_promises Run _ bytes text none = tt
no_answer_promises (Prove sizes) Done bytes text none = cc
no_answer_promises (Prove sizes) No bytes text none = cc
no_answer_promises (Prove sizes) Spent bytes text none = cc
no_answer_promises (Prove sizes) _ bytes text none = tt
no_answer_promises Recheck Done bytes text none = cc
no_answer_promises Recheck No bytes text none = cc
no_answer_promises Recheck _ bytes text none = tt
no_answer_promises (Gen n) Done bytes text none = cc
no_answer_promises (Gen n) No bytes text none = cc
no_answer_promises (Gen n) Spent bytes text none = cc
no_answer_promises (Gen n) _ bytes text none = tt
no_answer_promises (Circuit bound) Done bytes text none = cc
no_answer_promises (Circuit bound) No bytes text none = cc
no_answer_promises (Circuit bound) _ bytes text none = tt
no_answer_promises Automaton Done bytes text none = cc
no_answer_promises Automaton _ bytes text none = tt
no_answer_promises Accepts Done bytes text none = cc
no_answer_promises Accepts No bytes text none = cc
no_answer_promises Accepts _ bytes text none = tt

-- so the reply at a fault keeps the promise of every task
pub fault_keeps : (task : Task) (fault : Fault) (bytes : List ℕ) (reply : Reply) → reply ≡ fault_reply fault →
    Promise task reply.status bytes reply.text
fault_keeps task fault bytes reply is =
    no_answer_promises task reply.status bytes reply.text (ap is_answer (status_of is) ∙ fault_is_no_answer fault)
