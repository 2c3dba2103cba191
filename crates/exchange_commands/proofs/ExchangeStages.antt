-- The outcomes of each stage of `circuit`, `automaton` and `accepts`.
use Rattle.std.proofs.Common.{◌≡◌, ◌↔◌, ℕ, Bool, true, List, drop, ap, ◌∙◌}
use Rattle.std.specs.Prelude.{Result, Ok, Err, IfOk}
use Rattle.tsl_terms.specs.SpecTree.{SpecTree}
use Rattle.program_tree.specs.ProgramTree.{ProgramTree}
use Rattle.tsl_reader.specs.Spells.{Spells}
use Rattle.program_check.specs.declared.verdict.Limit.{Limit}
use Rattle.line_formats.specs.Machine.{IsFirstWrong, with_last_feed}
use Rattle.lasso_text.specs.LetterText.{LoopTree, IsLoop, loop_text, step, whole, fresh}
use Rattle.cobuchi_automata.specs.Automata.{EdgeTree}
use Rattle.loop_acceptance.specs.Accepts.{Accepts, loop_of}
use Rattle.automaton_text.specs.declared.hoa_error.HoaError.{HoaError}
use Rattle.automaton_text.specs.HoaText.{IsHoaText}
use Rattle.automaton_text.specs.HoaRefusals.{IsHoaRefusal, IsSmall}
use Rattle.tsl_report.specs.declared.fault.Fault.{Fault}
use Rattle.tsl_report.specs.declared.fault.Fault.TheVariants.{LettersForm}
use Rattle.tool_io.specs.declared.reply.Reply.{Reply}
use Rattle.command_faults.specs.HeadLines.{IsCutBefore}
use Rattle.command_faults.specs.Refusals.{HasSpecFault, fault_at_limit}
use Rattle.command_faults.specs.Replies.{fault_reply}
use Rattle.checking_commands.specs.Judged.{IsAcceptedPair}
use Rattle.exchange_commands.specs.Letters.{letters_of}
use Rattle.exchange_commands.specs.Circuit.{TellsCircuit, CircuitOutcome, accepted}
use Rattle.exchange_commands.specs.Automaton.{IsPastFor, TellsAutomaton, NegationOutcome, too_large, told, AutomatonOutcome, refused, of_spec}
use Rattle.exchange_commands.specs.Accepts.{letters_line, AcceptsParts, verdict_reply, IsAutomatonFault, LoopOutcome, automaton_refused}
use Rattle.exchange_commands.specs.Accepts.{letters_refused, both_spelled, AcceptsOutcome, of_parts}

module _ {E : Type 0} where
  -- ---- `circuit`

  pub circuit_told : (bound : ℕ) (bytes : List ℕ) (spec : SpecTree) (program : ProgramTree) (r : Result Reply E) →
      IsAcceptedPair bound bytes spec program → IfOk r (TellsCircuit spec program) → IfOk r (CircuitOutcome bound bytes)
  circuit_told bound bytes spec program (Ok reply) pair tells = accepted spec program pair tells
  circuit_told bound bytes spec program (Err e) pair tells = tt

  -- ---- `automaton`

  pub automaton_told : (spec : SpecTree) (r : Result Reply E) → IfOk r (TellsAutomaton spec) → IfOk r (NegationOutcome spec)
  automaton_told spec (Ok reply) tells = told tells
  automaton_told spec (Err e) tells = tt

  pub limit_told : (spec : SpecTree) (limit : Limit) (fault : Fault) (r : Result Reply E) → IsPastFor spec limit →
      fault ≡ fault_at_limit limit → IfOk r (λ reply. reply ≡ fault_reply fault) → IfOk r (NegationOutcome spec)
  limit_told spec limit fault (Ok reply) past is_limit is = too_large limit past (is ∙ ap fault_reply is_limit)
  limit_told spec limit fault (Err e) past is_limit is = tt

  pub spec_refused : (bytes : List ℕ) (fault : Fault) (r : Result Reply E) → HasSpecFault bytes fault →
      IfOk r (λ reply. reply ≡ fault_reply fault) → IfOk r (AutomatonOutcome bytes)
  spec_refused bytes fault (Ok reply) h is = refused fault h is
  spec_refused bytes fault (Err e) h is = tt

  pub spec_told : (bytes : List ℕ) (spec : SpecTree) (r : Result Reply E) → Spells bytes spec → IfOk r (NegationOutcome spec) →
      IfOk r (AutomatonOutcome bytes)
  spec_told bytes spec (Ok reply) spells outcome = of_spec spec spells outcome
  spec_told bytes spec (Err e) spells outcome = tt

  -- ---- `accepts`

  pub parts_told : (bytes automaton from letters : List ℕ) (r : Result Reply E) → IsCutBefore bytes letters_line automaton from →
      letters ≡ drop 8 from → IfOk r (LoopOutcome (record { automaton = automaton; letters = letters })) → IfOk r (AcceptsOutcome bytes)
  parts_told bytes automaton from letters (Ok reply) cut same outcome =
      of_parts (record { automaton = automaton; letters = letters }) (record { from_line = from; cut = cut; letters = same }) outcome
  parts_told bytes automaton from letters (Err e) cut same outcome = tt

  pub automaton_refused_told : (parts : AcceptsParts) (error : HoaError) (fault : Fault) (r : Result Reply E) →
      IsHoaRefusal error parts.automaton → IsAutomatonFault error fault → IfOk r (λ reply. reply ≡ fault_reply fault) →
      IfOk r (LoopOutcome parts)
  automaton_refused_told parts error fault (Ok reply) h is_fault is = automaton_refused error fault h is_fault is
  automaton_refused_told parts error fault (Err e) h is_fault is = tt

  module _ (parts : AcceptsParts) (bits states : ℕ) (edges : List EdgeTree) (there : IsHoaText parts.automaton bits states edges)
      (small : IsSmall bits states edges) where
    pub letters_refused_told : (line : ℕ) (r : Result Reply E) →
        IsFirstWrong step whole (fresh bits) (with_last_feed parts.letters) line →
        IfOk r (λ reply. reply ≡ fault_reply (LettersForm line)) → IfOk r (LoopOutcome parts)
    letters_refused_told line (Ok reply) wrong is = letters_refused bits states edges line there small wrong is
    letters_refused_told line (Err e) wrong is = tt

    pub verdict_told : (loop : LoopTree) (r : Result Reply E) → IsLoop bits loop → with_last_feed parts.letters ≡ loop_text loop →
        IfOk r (λ reply. (holds : Bool) × (reply ≡ verdict_reply holds)
        × ((holds ≡ true) ↔ Accepts edges (loop_of (letters_of loop.letters) loop.back))) →
        IfOk r (LoopOutcome parts)
    verdict_told loop (Ok reply) is_loop same found =
        both_spelled (record { bits = bits; states = states; edges = edges; letters = loop })
        (record { automaton = there; is_loop = is_loop; letters = same }) small found.0 found.2 found.1
    verdict_told loop (Err e) is_loop same found = tt
