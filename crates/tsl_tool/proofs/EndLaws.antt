-- What a reply to bytes is, and what follows of how a run ends.
use Rattle.std.proofs.Common.{◌≡◌, ◌≢◌, ℕ, true, List, [], refl, ap, sym, ◌∙◌, subst, inl, inr, arith}
use Rattle.std.specs.Prelude.{None}
use Rattle.tsl_io.specs.Told.{with_added}
use Rattle.tsl_io.specs.Effects.{Effect, NeverFailed, ContentsAre}
use Rattle.tool_io.specs.declared.status.Status.{Status}
use Rattle.tool_io.specs.declared.status.Status.TheVariants.{Usage, ReadFault, WriteFault, Memory}
use Rattle.tool_io.specs.declared.reply.Reply.{Reply}
use Rattle.tool_io.specs.Ends.{CountsReads, answered, cut_off, out_of_memory}
use Rattle.tool_io.specs.Statuses.{is_answer}
use Rattle.tool_io.proofs.Ending.{answer_told, none_at, fault_at}
use Rattle.tool_io.proofs.Replying.{comes_of_bytes}
use Rattle.command_words.specs.declared.task.Task.{Task}
use Rattle.command_words.specs.declared.task.Task.TheVariants.{Synth, Check, Run, Prove, Recheck, Gen, Circuit, Automaton, Accepts}
use Rattle.command_words.specs.Commands.{ParsesTo}
use Rattle.tsl_tool.specs.Causes.{Causes, Rises}
use Rattle.tsl_tool.specs.Ends.{IsReplyTo, Ends}
use Rattle.tsl_tool.specs.Outcome.{TaskOutcome, Outcome, on_bytes}
use Rattle.tsl_tool.specs.Promise.{Promise}
use Rattle.tsl_tool.specs.Tasks.{AreFewBytes, most_bytes}
use Rattle.tsl_tool.proofs.OutcomeLaws.{task_comes, answer_to_task, usage_of_words, words_to_usage, no_write_fault, no_memory}
use Rattle.tsl_tool.proofs.OutcomeLaws.{outcome_says, keeps_promise}

-- what a task replies to bytes is an outcome on them, and bytes may lead to its status
pub task_replies : (words : List (List ℕ)) (task : Task) (bytes : List ℕ) (reply : Reply) → ParsesTo words task →
    AreFewBytes (most_bytes task) bytes → TaskOutcome task bytes reply → Outcome words bytes reply × (comes_of_bytes reply.status ≡ true)
task_replies words task bytes reply asks few outcome = (on_bytes task asks few outcome, task_comes task bytes reply outcome)

-- what reads nothing replies so whatever the bytes are
pub on_any_bytes : (task : Task) (bytes other : List ℕ) (reply : Reply) → most_bytes task ≡ None → TaskOutcome task bytes reply →
    TaskOutcome task other reply
on_any_bytes (Synth sizes) bytes other reply reads outcome = cc
on_any_bytes (Check bound) bytes other reply reads outcome = cc
on_any_bytes Run bytes other reply reads outcome = cc
on_any_bytes (Prove sizes) bytes other reply reads outcome = cc
on_any_bytes Recheck bytes other reply reads outcome = cc
on_any_bytes (Circuit bound) bytes other reply reads outcome = cc
on_any_bytes Automaton bytes other reply reads outcome = cc
on_any_bytes Accepts bytes other reply reads outcome = cc
on_any_bytes (Gen n) bytes other reply reads outcome = outcome

-- each reply has a text
pub reply_says : (words : List (List ℕ)) (source : Effect) (reply : Reply) → IsReplyTo words source reply → reply.text ≢ []
reply_says words source reply h = outcome_says words h.bytes reply h.outcome

-- what an answer promises
pub answer_promises : (words : List (List ℕ)) (source out err : Effect) (result : Status) → Ends words source out err result →
    is_answer result ≡ true → (task : Task) × ParsesTo words task × (bytes : List ℕ) × (text : List ℕ) × ContentsAre source.old bytes ×
    Promise task result bytes text × (out.new ≡ with_added text out.old)
answer_promises words source out err result ends answer =
    let told = answer_told ends answer in
    let h = told.1 in
    let asked = answer_to_task words h.bytes told.0 h.outcome (sym (ap is_answer told.2) ∙ answer) in (
      asked.0,
      asked.1,
      h.bytes,
      told.0.text,
      h.told,
      subst (λ (s : Status). Promise asked.0 s h.bytes told.0.text) (sym told.2)
          (keeps_promise words asked.0 h.bytes told.0 asked.1 h.outcome),
      told.3,
    )

-- the source failed at a read fault, and nowhere else
reads_rise : (status : Status) (source : Effect) → CountsReads status source → Rises source → status ≡ ReadFault
reads_rise ReadFault source counts rises = refl
reads_rise _ source counts rises = absurd (omega (arith, counts, rises))

never_rises : (device : Effect) → NeverFailed device → Rises device → ⊥
never_rises device never rises = omega (arith, never, rises)

pub causes : (words : List (List ℕ)) (source out err : Effect) (result : Status) → Ends words source out err result →
    Causes words source out err result
causes words source out err result (answered reply h is whole other) =
    let sinks = none_at reply.status out err reply.text whole other in record {
      usage = λ e. usage_of_words words h.bytes reply h.outcome (sym is ∙ e);
      other_words = λ none. inl (is ∙ words_to_usage words h.bytes reply h.outcome none);
      read_fault = λ e. subst (λ (s : Status). CountsReads s source) (sym is ∙ e) h.count;
      write_fault = λ e. absurd (no_write_fault words h.bytes reply h.outcome (sym is ∙ e));
      read_rise = λ rises. inl (inl (is ∙ reads_rise reply.status source h.count rises));
      out_rise = λ rises. absurd (never_rises out sinks.0 rises);
      err_rise = λ rises. absurd (never_rises err sinks.1 rises);
      memory = λ e. absurd (no_memory words h.bytes reply h.outcome (sym is ∙ e));
    }
causes words source out err result (cut_off reply h is part other) = record {
  usage = λ e. (let clash : WriteFault ≡ Usage = sym is ∙ e in cc);
  other_words = λ none. inr (inl is);
  read_fault = λ e. (let clash : WriteFault ≡ ReadFault = sym is ∙ e in cc);
  write_fault = λ e. fault_at reply.status out err reply.text part;
  read_rise = λ rises. inl (inr is);
  out_rise = λ rises. is;
  err_rise = λ rises. is;
  memory = λ e. (let clash : WriteFault ≡ Memory = sym is ∙ e in cc);
}
causes words source out err result (out_of_memory is same_out same_err) = record {
  usage = λ e. (let clash : Memory ≡ Usage = sym is ∙ e in cc);
  other_words = λ none. inr (inr is);
  read_fault = λ e. (let clash : Memory ≡ ReadFault = sym is ∙ e in cc);
  write_fault = λ e. (let clash : Memory ≡ WriteFault = sym is ∙ e in cc);
  read_rise = λ rises. inr is;
  out_rise = λ rises. absurd (never_rises out same_out.count rises);
  err_rise = λ rises. absurd (never_rises err same_err.count rises);
  memory = λ e. (same_out, same_err);
}
