-- Where a task can be answered and nothing fails, the run ends with an answer to it, or memory runs out.
use Rattle.std.proofs.Common.{◌≡◌, ℕ, ◌<◌, ◌≤◌, ◌⊎◌, true, false, List, [], length, inl, inr, ⊎_elim, refl, ap, sym, ◌∙◌, subst, arith}
use Rattle.std.specs.Prelude.{Option, Some, None}
use Rattle.command_words.specs.declared.task.SynthSizes.{SynthSizes}
use Rattle.command_words.specs.declared.task.Task.{Task}
use Rattle.command_words.specs.declared.task.Task.TheVariants.{Synth, Check, Run, Prove, Recheck, Gen, Circuit, Automaton, Accepts}
use Rattle.command_words.specs.Commands.{ParsesTo}
use Rattle.command_words.proofs.OneTask.{asking_is_taken, one_task}
use Rattle.program_check.specs.declared.verdict.Limit.{Limit}
use Rattle.refinement_loop.specs.Questions.{HasSolution}
use Rattle.refinement_loop.specs.Outcomes.{IsLargeFor}
use Rattle.tsl_io.specs.Effects.{Effect, HasFailed, ContentsAre}
use Rattle.tsl_terms.specs.SpecTree.{SpecTree}
use Rattle.tsl_reader.specs.Spells.{Spells}
use Rattle.tool_io.specs.declared.status.Status.{Status}
use Rattle.tool_io.specs.declared.status.Status.TheVariants.{Done, Spent, ReadFault, Memory}
use Rattle.tool_io.specs.declared.reply.Reply.{Reply}
use Rattle.tsl_tool.specs.Answerable.{CanBeAnswered, CanBeRead, NoneFails, is_answer_to}
use Rattle.tool_io.specs.Ends.{CountsReads, answered, cut_off, out_of_memory}
use Rattle.tool_io.proofs.Ending.{fault_at}
use Rattle.tsl_tool.specs.Ends.{IsReplyTo, Ends}
use Rattle.tsl_tool.specs.Outcome.{TaskOutcome, Outcome, usage, source_failed, too_long, on_bytes}
use Rattle.tsl_tool.specs.Tasks.{bound_asked, most_bytes, search_sizes}
use Rattle.tsl_tool.proofs.EndLaws.{on_any_bytes}
use Rattle.synthesis_commands.proofs.GenReplies.{gen_answers}
use Rattle.checking_commands.proofs.OneInput.{ReadOnce}
use Rattle.synthesis_commands.proofs.ProveReplies.{question_answers}
use Rattle.tool_io.proofs.Replying.{status_of}
use Rattle.synthesis_commands.proofs.SynthReplies.{search_answers, controller_found}
use Rattle.tsl_tool.proofs.ExchangesCome.{circuit_answers, automaton_answers, accepts_answers}
use Rattle.tsl_tool.proofs.VerdictsCome.{check_answers, run_answers, recheck_answers}

-- ---- each task

-- as many bytes as are read
abbrev AreFew : Task → List ℕ → Type 0
AreFew task bytes = (most : ℕ) → most_bytes task ≡ Some most → length bytes ≤ most

pub task_answers : ReadOnce → (task : Task) (bytes : List ℕ) (reply : Reply) → AreFew task bytes → CanBeAnswered task bytes →
    TaskOutcome task bytes reply → is_answer_to task reply.status ≡ true
task_answers once (Synth sizes) bytes reply few can outcome = search_answers (search_sizes sizes) bytes can.0 can.1 reply can.2 outcome
task_answers once (Check bound) bytes reply few can outcome = check_answers bound bytes reply can outcome
task_answers once Run bytes reply few can outcome = run_answers once bytes reply can outcome
task_answers once (Prove sizes) bytes reply few can outcome = question_answers sizes bytes can.0 reply can.1 can.2 outcome
task_answers once Recheck bytes reply few can outcome = recheck_answers bytes reply can outcome
task_answers once (Gen n) bytes reply few can outcome = gen_answers n can.0 reply can.1 can.2 outcome
task_answers once (Circuit bound) bytes reply few can outcome = circuit_answers bound bytes reply can outcome
task_answers once Automaton bytes reply few can outcome = automaton_answers bytes can.0 can.1 can.2 reply outcome
task_answers once Accepts bytes reply few can outcome = accepts_answers bytes reply (few 16777216 refl) can outcome

-- ---- how the run ends

-- where nothing fails and no more bytes are told than are read, the status is that of an outcome of the task on them
module _ (words : List (List ℕ)) (task : Task) (bytes : List ℕ) (source : Effect) (asks : ParsesTo words task)
    (read : CanBeRead (most_bytes task) source bytes) (works : HasFailed source → ⊥) (reply : Reply) where
  same_bytes : (other : List ℕ) → ContentsAre source.old other → (most : Option ℕ) → most_bytes task ≡ most →
      TaskOutcome task other reply → TaskOutcome task bytes reply
  same_bytes other told None none outcome = on_any_bytes task other bytes reply none outcome
  same_bytes other told (Some most) some outcome =
      subst (λ (b : List ℕ). TaskOutcome task b reply)
      (sym (told bytes (subst (λ (m : Option ℕ). CanBeRead m source bytes) some read).0)) outcome

  not_too_long : (other : List ℕ) (most : ℕ) → ContentsAre source.old other → most_bytes task ≡ Some most → most < length other → ⊥
  not_too_long other most told some many =
      let few = subst (λ (m : Option ℕ). CanBeRead m source bytes) some read in
      omega (arith, few.1, many, ap (λ (b : List ℕ). length b) (told bytes few.0))

  no_read_fault : (status : Status) → status ≡ ReadFault → CountsReads status source → ⊥
  no_read_fault status is counts = works (subst (λ (s : Status). CountsReads s source) is counts)

  of_task : (h : IsReplyTo words source reply) → Outcome words h.bytes reply → TaskOutcome task bytes reply
  of_task h (usage none is) = let e : true ≡ false = sym (asking_is_taken words task asks) ∙ none in cc
  of_task h (source_failed other asked reads is) = absurd (no_read_fault reply.status (status_of is) h.count)
  of_task h (too_long other most asked some many is) =
      absurd (not_too_long h.bytes most h.told (ap most_bytes (one_task words task other asks asked) ∙ some) many)
  of_task h (on_bytes other asked few outcome) =
      same_bytes h.bytes h.told (most_bytes task) refl
      (subst (λ (t : Task). TaskOutcome t h.bytes reply) (one_task words other task asked asks) outcome)

pub ends_of_task : (words : List (List ℕ)) (task : Task) (bytes : List ℕ) (source out err : Effect) (result : Status) →
    ParsesTo words task → CanBeRead (most_bytes task) source bytes → NoneFails source out err → Ends words source out err result →
    ((reply : Reply) × (result ≡ reply.status) × TaskOutcome task bytes reply) ⊎ (result ≡ Memory)
ends_of_task words task bytes source out err result asks read none (answered reply h is whole other) =
    inl (reply, is, of_task words task bytes source asks read none.no_read_fault reply h h.outcome)
ends_of_task words task bytes source out err result asks read none (cut_off reply h is part other) =
    absurd (⊎_elim none.no_fault_of_out none.no_fault_of_err (fault_at reply.status out err reply.text part))
ends_of_task words task bytes source out err result asks read none (out_of_memory is same_out same_err) = inr is

pub answers_come : ReadOnce → (words : List (List ℕ)) (task : Task) (bytes : List ℕ) (source out err : Effect) (result : Status) →
    ParsesTo words task → CanBeRead (most_bytes task) source bytes → CanBeAnswered task bytes → NoneFails source out err →
    Ends words source out err result → (is_answer_to task result ≡ true) ⊎ (result ≡ Memory)
answers_come once words task bytes source out err result asks read can none ends =
    ⊎_elim (λ told. inl (ap (is_answer_to task) told.1 ∙ task_answers once task bytes told.0 few can told.2)) inr
    (ends_of_task words task bytes source out err result asks read none ends)
  where
    few : AreFew task bytes
    few most is = (subst (λ (m : Option ℕ). CanBeRead m source bytes) is read).1

-- where a controller of the size has an annotation within the bound without windows, a program is written, or the budget is spent
pub program_or_spent : (words : List (List ℕ)) (sizes : SynthSizes) (bytes : List ℕ) (spec : SpecTree) (source out err : Effect)
    (result : Status) → ParsesTo words (Synth sizes) → CanBeRead (most_bytes (Synth sizes)) source bytes → Spells bytes spec →
    HasSolution spec [] sizes.states (bound_asked sizes.bound) → ((limit : Limit) → IsLargeFor spec [] sizes.states (bound_asked sizes.bound) limit → ⊥) →
    NoneFails source out err → Ends words source out err result → ((result ≡ Done) ⊎ (result ≡ Spent)) ⊎ (result ≡ Memory)
program_or_spent words sizes bytes spec source out err result asks read spells solution within none ends =
    ⊎_elim (λ told. inl (either told.1 (controller_found (search_sizes sizes) bytes spec spells solution told.0 within told.2))) inr
    (ends_of_task words (Synth sizes) bytes source out err result asks read none ends)
  where
    either : {status : Status} → result ≡ status → (status ≡ Done) ⊎ (status ≡ Spent) → (result ≡ Done) ⊎ (result ≡ Spent)
    either is (inl done) = inl (is ∙ done)
    either is (inr spent) = inr (is ∙ spent)
