-- Which status and which text the reply of an outcome has, and what it promises.
use Rattle.std.proofs.Common.{◌≡◌, ◌≢◌, ℕ, true, false, List, [], refl, ap, sym, ◌∙◌, subst}
use Rattle.command_words.specs.Commands.{ParsesTo, are_taken}
use Rattle.command_words.proofs.OneTask.{asking_is_taken, one_task}
use Rattle.tsl_report.specs.declared.fault.Fault.TheVariants.{Usage as WrongWords, Read, Parts, Large as PastLimit}
use Rattle.tsl_report.specs.declared.fault.Head.TheVariants.{Lrat}
use Rattle.tsl_report.specs.declared.fault.LimitName.TheVariants.{Text}
use Rattle.tool_io.specs.declared.status.Status.{Status}
use Rattle.tool_io.specs.declared.status.Status.TheVariants.{Done, No, Usage, Large, ReadFault, WriteFault, Memory}
use Rattle.command_words.specs.declared.task.Task.{Task}
use Rattle.command_words.specs.declared.task.Task.TheVariants.{Synth, Check, Run, Prove, Recheck, Gen, Circuit, Automaton, Accepts}
use Rattle.tool_io.specs.declared.reply.Reply.{Reply}
use Rattle.tool_io.specs.Statuses.{is_answer}
use Rattle.tsl_tool.specs.Tasks.{search_sizes}
use Rattle.command_faults.specs.HeadLines.{IsFirstLineAt}
use Rattle.checking_commands.specs.Recheck.{without_log, of_parts, head_line}
use Rattle.checking_commands.specs.Recheck.{recheck_reply, cnf_part, log_part}
use Rattle.tsl_tool.specs.Outcome.{TaskOutcome, Outcome, usage, source_failed, too_long, on_bytes}
use Rattle.tsl_tool.specs.Promise.{Promise}
use Rattle.checking_commands.proofs.CheckReplies.{check_comes, check_says}
use Rattle.tsl_tool.proofs.FaultPromises.{fault_keeps}
use Rattle.synthesis_commands.proofs.GenReplies.{gen_comes, gen_says}
use Rattle.synthesis_commands.proofs.ProveReplies.{prove_comes, prove_says}
use Rattle.checking_commands.proofs.RecheckLaws.{yes_refutes, no_exactly}
use Rattle.checking_commands.proofs.RecheckReplies.{recheck_comes, recheck_says}
use Rattle.checking_commands.proofs.RunReplies.{run_comes, run_says}
use Rattle.tool_io.proofs.Replying.{comes_of_bytes, status_of}
use Rattle.command_faults.proofs.Statuses.{fault_says}
use Rattle.synthesis_commands.proofs.SynthReplies.{synth_comes, synth_says}
use Rattle.exchange_commands.proofs.AcceptsReplies.{accepts_comes, accepts_says}
use Rattle.exchange_commands.proofs.AutomatonReplies.{automaton_comes, automaton_says}
use Rattle.exchange_commands.proofs.CircuitReplies.{circuit_comes, circuit_says}
use Rattle.tsl_tool.proofs.CheckPromise.{check_keeps}
use Rattle.tsl_tool.proofs.ExchangePromises.{circuit_keeps, automaton_keeps, accepts_keeps}
use Rattle.tsl_tool.proofs.GenPromise.{gen_keeps}
use Rattle.tsl_tool.proofs.ProvePromise.{prove_keeps}
use Rattle.tsl_tool.proofs.RunPromise.{run_keeps}
use Rattle.tsl_tool.proofs.SynthPromise.{synth_keeps}

pub task_comes : (task : Task) (bytes : List ℕ) (reply : Reply) → TaskOutcome task bytes reply → comes_of_bytes reply.status ≡ true
task_comes (Synth sizes) bytes reply outcome = synth_comes (search_sizes sizes) bytes reply outcome
task_comes (Check bound) bytes reply outcome = check_comes bound bytes reply outcome
task_comes Run bytes reply outcome = run_comes bytes reply outcome
task_comes (Prove sizes) bytes reply outcome = prove_comes sizes bytes reply outcome
task_comes Recheck bytes reply outcome = recheck_comes bytes reply outcome
task_comes (Gen n) bytes reply outcome = gen_comes n reply outcome
task_comes (Circuit bound) bytes reply outcome = circuit_comes bound bytes reply outcome
task_comes Automaton bytes reply outcome = automaton_comes bytes reply outcome
task_comes Accepts bytes reply outcome = accepts_comes bytes reply outcome

-- usage comes of words that are refused
pub usage_of_words : (words : List (List ℕ)) (bytes : List ℕ) (reply : Reply) → Outcome words bytes reply → reply.status ≡ Usage →
    are_taken words ≡ false
usage_of_words words bytes reply (usage none is) h = none
usage_of_words words bytes reply (source_failed task asks reads is) h = let e : ReadFault ≡ Usage = sym (status_of is) ∙ h in cc
usage_of_words words bytes reply (too_long task most asks is_most many is) h = let e : Large ≡ Usage = sym (status_of is) ∙ h in cc
usage_of_words words bytes reply (on_bytes task asks few outcome) h =
    let e : false ≡ true = sym (ap comes_of_bytes h) ∙ task_comes task bytes reply outcome in cc

-- and such words lead to nothing else
refused_or_asked : (words : List (List ℕ)) (task : Task) → ParsesTo words task → are_taken words ≡ false → ⊥
refused_or_asked words task asks refused = let e : true ≡ false = sym (asking_is_taken words task asks) ∙ refused in cc

pub words_to_usage : (words : List (List ℕ)) (bytes : List ℕ) (reply : Reply) → Outcome words bytes reply → are_taken words ≡ false →
    reply.status ≡ Usage
words_to_usage words bytes reply (usage none is) h = status_of is
words_to_usage words bytes reply (source_failed task asks reads is) h = absurd (refused_or_asked words task asks h)
words_to_usage words bytes reply (too_long task most asks is_most many is) h = absurd (refused_or_asked words task asks h)
words_to_usage words bytes reply (on_bytes task asks few outcome) h = absurd (refused_or_asked words task asks h)

-- an answer comes of words that ask for something
pub answer_to_task : (words : List (List ℕ)) (bytes : List ℕ) (reply : Reply) → Outcome words bytes reply →
    is_answer reply.status ≡ true → (task : Task) × ParsesTo words task
answer_to_task words bytes reply (usage none is) h = let e : false ≡ true = sym (ap is_answer (status_of is)) ∙ h in cc
answer_to_task words bytes reply (source_failed task asks reads is) h = (task, asks)
answer_to_task words bytes reply (too_long task most asks is_most many is) h = (task, asks)
answer_to_task words bytes reply (on_bytes task asks few outcome) h = (task, asks)

-- no reply has the status of a write fault or of no memory
pub no_write_fault : (words : List (List ℕ)) (bytes : List ℕ) (reply : Reply) → Outcome words bytes reply → reply.status ≡ WriteFault → ⊥
no_write_fault words bytes reply (usage none is) h = let e : Usage ≡ WriteFault = sym (status_of is) ∙ h in cc
no_write_fault words bytes reply (source_failed task asks reads is) h = let e : ReadFault ≡ WriteFault = sym (status_of is) ∙ h in cc
no_write_fault words bytes reply (too_long task most asks is_most many is) h = let e : Large ≡ WriteFault = sym (status_of is) ∙ h in cc
no_write_fault words bytes reply (on_bytes task asks few outcome) h =
    let e : false ≡ true = sym (ap comes_of_bytes h) ∙ task_comes task bytes reply outcome in cc

pub no_memory : (words : List (List ℕ)) (bytes : List ℕ) (reply : Reply) → Outcome words bytes reply → reply.status ≡ Memory → ⊥
no_memory words bytes reply (usage none is) h = let e : Usage ≡ Memory = sym (status_of is) ∙ h in cc
no_memory words bytes reply (source_failed task asks reads is) h = let e : ReadFault ≡ Memory = sym (status_of is) ∙ h in cc
no_memory words bytes reply (too_long task most asks is_most many is) h = let e : Large ≡ Memory = sym (status_of is) ∙ h in cc
no_memory words bytes reply (on_bytes task asks few outcome) h =
    let e : false ≡ true = sym (ap comes_of_bytes h) ∙ task_comes task bytes reply outcome in cc

-- each reply has a text
task_says : (task : Task) (bytes : List ℕ) (reply : Reply) → TaskOutcome task bytes reply → reply.text ≢ []
task_says (Synth sizes) bytes reply outcome e = synth_says (search_sizes sizes) bytes reply outcome e
task_says (Check bound) bytes reply outcome e = check_says bound bytes reply outcome e
task_says Run bytes reply outcome e = run_says bytes reply outcome e
task_says (Prove sizes) bytes reply outcome e = prove_says sizes bytes reply outcome e
task_says Recheck bytes reply outcome e = recheck_says bytes reply outcome e
task_says (Gen n) bytes reply outcome e = gen_says n reply outcome e
task_says (Circuit bound) bytes reply outcome e = circuit_says bound bytes reply outcome e
task_says Automaton bytes reply outcome e = automaton_says bytes reply outcome e
task_says Accepts bytes reply outcome e = accepts_says bytes reply outcome e

pub outcome_says : (words : List (List ℕ)) (bytes : List ℕ) (reply : Reply) → Outcome words bytes reply → reply.text ≢ []
outcome_says words bytes reply (usage none is) = fault_says WrongWords reply is
outcome_says words bytes reply (source_failed task asks reads is) = fault_says Read reply is
outcome_says words bytes reply (too_long task most asks is_most many is) = fault_says (PastLimit Text most) reply is
outcome_says words bytes reply (on_bytes task asks few outcome) = task_says task bytes reply outcome

recheck_keeps : (bytes : List ℕ) (at : ℕ) (status : Status) → IsFirstLineAt bytes head_line at → (recheck_reply bytes at).status ≡ status →
    Promise Recheck status bytes (recheck_reply bytes at).text
recheck_keeps bytes at Done first is =
    let says = yes_refutes (cnf_part bytes at) (log_part bytes at) is in ((at, first, says.0), says.1)
recheck_keeps bytes at No first is = (at, first, (no_exactly (cnf_part bytes at) (log_part bytes at)).0 is)
recheck_keeps bytes at _ first is = tt

task_keeps : (task : Task) (bytes : List ℕ) (reply : Reply) → TaskOutcome task bytes reply → Promise task reply.status bytes reply.text
task_keeps (Synth sizes) bytes reply outcome = synth_keeps sizes bytes reply outcome
task_keeps (Check bound) bytes reply outcome = check_keeps bound bytes reply outcome
task_keeps Run bytes reply outcome = run_keeps bytes reply outcome
task_keeps (Prove sizes) bytes reply outcome = prove_keeps sizes bytes reply outcome
task_keeps Recheck bytes reply (without_log h is) = fault_keeps Recheck (Parts Lrat) bytes reply is
task_keeps Recheck bytes reply (of_parts at first is) =
    subst (λ (r : Reply). Promise Recheck r.status bytes r.text) (sym is)
    (recheck_keeps bytes at (recheck_reply bytes at).status first refl)
task_keeps (Gen n) bytes reply outcome = gen_keeps n bytes reply outcome
task_keeps (Circuit bound) bytes reply outcome = circuit_keeps bound bytes reply outcome
task_keeps Automaton bytes reply outcome = automaton_keeps bytes reply outcome
task_keeps Accepts bytes reply outcome = accepts_keeps bytes reply outcome

-- the reply of an outcome keeps the promise of the task that the words ask for
pub keeps_promise : (words : List (List ℕ)) (task : Task) (bytes : List ℕ) (reply : Reply) → ParsesTo words task →
    Outcome words bytes reply → Promise task reply.status bytes reply.text
keeps_promise words task bytes reply asked (usage none is) = fault_keeps task WrongWords bytes reply is
keeps_promise words task bytes reply asked (source_failed other asks reads is) = fault_keeps task Read bytes reply is
keeps_promise words task bytes reply asked (too_long other most asks is_most many is) =
    fault_keeps task (PastLimit Text most) bytes reply is
keeps_promise words task bytes reply asked (on_bytes other asks few outcome) =
    subst (λ (t : Task). Promise t reply.status bytes reply.text) (one_task words other task asks asked)
    (task_keeps other bytes reply outcome)
