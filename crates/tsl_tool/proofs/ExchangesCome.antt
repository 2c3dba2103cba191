-- The replies of `circuit`, `automaton` and `accepts` where nothing is refused and no limit is passed, and the limits that they tell.
use Rattle.std.proofs.Common.{◌≡◌, ℕ, ◌<◌, ◌≤◌, ◌^◌, Bool, true, false, List, drop, length, Some, refl, ap, sym, ◌∙◌, subst, arith}
use Rattle.std.proofs.lemmas.List.{length-drop}
use Rattle.line_formats.specs.Machine.{IsFirstWrong, with_last_feed}
use Rattle.lasso_text.specs.LetterText.{step, whole, fresh, loop_lines}
use Rattle.lasso_text.proofs.LoopLaws.{is_text}
use Rattle.cobuchi_automata.specs.Automata.{EdgeTree}
use Rattle.automaton_text.specs.declared.hoa_error.HoaError.{HoaError}
use Rattle.automaton_text.specs.declared.hoa_error.HoaError.TheVariants.{Form, Bits, States, Edges, NoMemory}
use Rattle.automaton_text.specs.HoaText.{IsHoaText}
use Rattle.automaton_text.specs.HoaRefusals.{IsHoaRefusal, IsSmall}
use Rattle.automaton_text.proofs.WrittenRead.{one_automaton, never_wrong}
use Rattle.tsl_report.specs.declared.fault.Fault.{Fault}
use Rattle.tsl_report.specs.declared.fault.Fault.TheVariants.{Large}
use Rattle.tsl_report.specs.declared.fault.LimitName.{LimitName}
use Rattle.tsl_terms.specs.SpecTree.{SpecTree}
use Rattle.program_tree.specs.ProgramTree.{ProgramTree}
use Rattle.tsl_reader.specs.Spells.{Spells}
use Rattle.tsl_reader.proofs.Causes.{one_spec}
use Rattle.program_check.specs.declared.verdict.Limit.{Limit}
use Rattle.program_check.specs.declared.verdict.Limit.TheVariants.{Predicates, Choices, Vectors, Clauses, Branches}
use Rattle.program_check.specs.declared.verdict.Limit.TheVariants.{Bits as BitLimit, States as StateLimit, Edges as EdgeLimit}
use Rattle.letter_space.specs.declared.limits.TheConstants.{MOST_PREDICATES, MOST_BITS}
use Rattle.letter_space.specs.SpaceTree.{bit_count}
use Rattle.letter_space.specs.SpecSpace.{spec_space}
use Rattle.cobuchi_automata.proofs.AutomatonLemmas.{has_choices, passes_states, passes_edges}
use Rattle.program_check.specs.declared.verdict.Verdict.TheVariants.{Yes}
use Rattle.program_check.specs.Verdicts.{IsPassed}
use Rattle.tool_io.specs.declared.reply.Reply.{Reply}
use Rattle.command_faults.specs.Refusals.{fault_at_limit}
use Rattle.command_faults.specs.Replies.{fault_reply}
use Rattle.command_faults.proofs.RefusalLaws.{not_refused}
use Rattle.tool_io.proofs.Replying.{status_of}
use Rattle.command_faults.proofs.Statuses.{fault_not_done}
use Rattle.checking_commands.specs.Check.{CheckParts, AreCheckParts, CheckInput, SpellCheckInput, CheckOutcome, of_texts, both_spelled as both}
use Rattle.checking_commands.specs.Check.{judged, verdict_reply as check_reply}
use Rattle.checking_commands.specs.Judged.{IsAcceptedPair}
use Rattle.checking_commands.proofs.OneInput.{one_before, one_after}
use Rattle.exchange_commands.specs.Circuit.{CircuitOutcome, not_accepted, accepted}
use Rattle.exchange_commands.specs.Automaton.{negated_form, IsPastFor, IsWrittenAutomaton, AutomatonOutcome, refused, of_spec, too_large, told}
use Rattle.exchange_commands.specs.Accepts.{letters_line, AcceptsParts, AreAcceptsParts, verdict_reply, LoopOutcome, automaton_refused}
use Rattle.exchange_commands.specs.Accepts.{AcceptsInput, SpellAcceptsInput, IsAutomatonFault}
use Rattle.exchange_commands.proofs.LetterCounts.{letters_within}
use Rattle.exchange_commands.specs.Accepts.{letters_refused, both_spelled, AcceptsOutcome, without_letters, of_parts}
use Rattle.tsl_tool.specs.Answerable.{CanBeChecked, CanBeAccepted, is_yes_or_no, is_done}
use Rattle.tsl_tool.proofs.CheckLimits.{check_tells_limits}
use Rattle.tsl_tool.proofs.VerdictsCome.{check_answers}

-- ---- `circuit`

pub circuit_answers : (bound : ℕ) (bytes : List ℕ) (reply : Reply) → CanBeChecked bytes → CircuitOutcome bound bytes reply →
    is_yes_or_no reply.status ≡ true
circuit_answers bound bytes reply can (not_accepted outcome other) = check_answers bound bytes reply can outcome
circuit_answers bound bytes reply can (accepted spec program pair tells) = ap is_yes_or_no (status_of tells.is)

-- what `check` replies where the program is accepted
pub accepted_is_checked : (bound : ℕ) (bytes : List ℕ) (spec : SpecTree) (program : ProgramTree) →
    IsAcceptedPair bound bytes spec program → CheckOutcome bound bytes (check_reply bound Yes)
accepted_is_checked bound bytes spec program pair =
    let h = pair.accepted in
    of_texts pair.parts pair.are_parts (both (record { spec = spec; names = h.names; program = program }) h.spelled
    (judged Yes h.few_bits h.is_verdict (λ same. h.realizes) refl))

pub circuit_tells_limits : (bound : ℕ) (bytes : List ℕ) (parts : CheckParts) (input : CheckInput) (reply : Reply) (limit : Limit) →
    AreCheckParts bytes parts → SpellCheckInput parts input → IsPassed input.spec input.program limit → CircuitOutcome bound bytes reply →
    (told : Limit) × IsPassed input.spec input.program told × (reply ≡ fault_reply (fault_at_limit told))
circuit_tells_limits bound bytes parts input reply limit are spells passed (not_accepted outcome other) =
    check_tells_limits bound bytes parts input reply limit are spells passed outcome
circuit_tells_limits bound bytes parts input reply limit are spells passed (accepted spec program pair tells) =
    let limit_told = check_tells_limits bound bytes parts input (check_reply bound Yes) limit are spells passed
    (accepted_is_checked bound bytes spec program pair) in
    absurd (fault_not_done (fault_at_limit limit_told.0) (check_reply bound Yes) limit_told.2 refl)

-- ---- `automaton`

pub automaton_answers : (bytes : List ℕ) (spec : SpecTree) → Spells bytes spec → ((limit : Limit) → IsPastFor spec limit → ⊥) →
    (reply : Reply) → AutomatonOutcome bytes reply → is_done reply.status ≡ true
automaton_answers bytes spec spells within reply (refused fault h is) =
    absurd (not_refused bytes spec h.error fault spells h.spells_none h.is_fault)
automaton_answers bytes spec spells within reply (of_spec other there (too_large limit past is)) =
    absurd (within limit (subst (λ (s : SpecTree). IsPastFor s limit) (one_spec bytes other spec there spells) past))
automaton_answers bytes spec spells within reply (of_spec other there (told h)) = ap is_done h.status

-- where a limit is passed there is no automaton within the limits
past_not_written : (spec : SpecTree) (text : List ℕ) (limit : Limit) → IsPastFor spec limit → IsWrittenAutomaton spec text → ⊥
past_not_written spec text Predicates past written =
    let few : length (spec_space spec).predicates ≤ MOST_PREDICATES = written.few_bits.few_predicates in omega (arith, few, past)
past_not_written spec text BitLimit past written =
    let few : bit_count (spec_space spec) ≤ MOST_BITS = written.few_bits.few_bits in omega (arith, few, past.1)
past_not_written spec text Choices past written =
    has_choices (negated_form spec) written.states written.edges written.is_automaton past.1
past_not_written spec text StateLimit past written =
    let many = passes_states (negated_form spec) written.states written.edges written.is_automaton past.1 in
    omega (arith, many, written.few_states)
past_not_written spec text EdgeLimit past written =
    let many = passes_edges (negated_form spec) written.states written.edges written.is_automaton past.1 in
    omega (arith, many, written.few_edges)
past_not_written spec text Vectors past written = past
past_not_written spec text Clauses past written = past
past_not_written spec text Branches past written = past

pub automaton_tells_limits : (bytes : List ℕ) (spec : SpecTree) (reply : Reply) (limit : Limit) → Spells bytes spec →
    IsPastFor spec limit → AutomatonOutcome bytes reply →
    (told : Limit) × IsPastFor spec told × (reply ≡ fault_reply (fault_at_limit told))
automaton_tells_limits bytes spec reply limit spells passed (refused fault h is) =
    absurd (not_refused bytes spec h.error fault spells h.spells_none h.is_fault)
automaton_tells_limits bytes spec reply limit spells passed (of_spec other there (too_large first past is)) =
    (first, subst (λ (s : SpecTree). IsPastFor s first) (one_spec bytes other spec there spells) past, is)
automaton_tells_limits bytes spec reply limit spells passed (of_spec other there (told h)) =
    absurd (past_not_written spec reply.text limit passed
    (subst (λ (s : SpecTree). IsWrittenAutomaton s reply.text) (one_spec bytes other spec there spells) h.written))

-- ---- `accepts`

verdict_answers : (holds : Bool) → is_yes_or_no (verdict_reply holds).status ≡ true
verdict_answers true = refl
verdict_answers false = refl

pub one_division : (bytes : List ℕ) (a b : AcceptsParts) → AreAcceptsParts bytes a → AreAcceptsParts bytes b → a ≡ b
one_division bytes a b h k =
    let from : h.from_line ≡ k.from_line = one_after bytes letters_line a.automaton h.from_line b.automaton k.from_line h.cut k.cut in
    λ i. record {
      automaton = one_before bytes letters_line a.automaton h.from_line b.automaton k.from_line h.cut k.cut i;
      letters = (h.letters ∙ ap (λ text. drop 8 text) from ∙ sym k.letters) i;
    }

-- an automaton within the limits is not refused
module _ (text : List ℕ) (bits states : ℕ) (edges : List EdgeTree) (there : IsHoaText text bits states edges)
    (small : IsSmall bits states edges) where
  pub automaton_stands : (error : HoaError) (fault : Fault) → IsHoaRefusal error text → IsAutomatonFault error fault → ⊥
  automaton_stands (Form line) fault wrong is = never_wrong text bits states line edges there wrong
  automaton_stands Bits fault past is =
      let same = one_automaton text bits states past.bits past.states edges past.edges there past.told in
      omega (arith, same.0, small.few_bits, past.large)
  automaton_stands States fault past is =
      let same = one_automaton text bits states past.bits past.states edges past.edges there past.told in
      omega (arith, same.1, small.few_states, past.large.1)
  automaton_stands Edges fault past is =
      let same = one_automaton text bits states past.bits past.states edges past.edges there past.told in
      let count : length edges ≡ length past.edges = ap length same.2 in
      omega (arith, count, small.few_edges, past.large.2)
  automaton_stands NoMemory fault past is = is

module _ (parts : AcceptsParts) (input : AcceptsInput) (spelled : SpellAcceptsInput parts input)
    (small : IsSmall input.bits input.states input.edges) (short : length parts.letters < 2 ^ 32) where
  pub same_automaton : (bits states : ℕ) (edges : List EdgeTree) → IsHoaText parts.automaton bits states edges →
      (input.bits ≡ bits) × (input.states ≡ states) × (input.edges ≡ edges)
  same_automaton bits states edges there =
      one_automaton parts.automaton input.bits input.states bits states input.edges edges spelled.automaton there

  pub letters_stand : (bits states : ℕ) (edges : List EdgeTree) (line : ℕ) → IsHoaText parts.automaton bits states edges →
      IsFirstWrong step whole (fresh bits) (with_last_feed parts.letters) line → ⊥
  letters_stand bits states edges line there wrong =
      let same = same_automaton bits states edges there in
      let here = subst (λ (b : ℕ). IsFirstWrong step whole (fresh b) (with_last_feed parts.letters) line) (sym same.0) wrong in
      let few = letters_within parts.letters input.letters spelled.letters in
      let few_bits : input.bits ≤ 64 = small.few_bits in
      here.none (loop_lines input.letters)
      (record { bits = input.bits; letters = input.letters.letters; back = Some input.letters.back })
      (is_text input.bits input.letters (omega (arith, few_bits)) (omega (arith, few, short)) spelled.is_loop) spelled.letters

  loop_answers : (reply : Reply) → LoopOutcome parts reply → is_yes_or_no reply.status ≡ true
  loop_answers reply (automaton_refused error fault h is_fault is) =
      absurd (automaton_stands parts.automaton input.bits input.states input.edges spelled.automaton small error fault h is_fault)
  loop_answers reply (letters_refused bits states edges line there within wrong is) = absurd (letters_stand bits states edges line there wrong)
  loop_answers reply (both_spelled other there within holds exactly is) = ap is_yes_or_no (status_of is) ∙ verdict_answers holds

pub letters_short : (bytes : List ℕ) (parts : AcceptsParts) → AreAcceptsParts bytes parts → length parts.letters ≤ length bytes
letters_short bytes parts are =
    let same : parts.letters ≡ drop 8 (drop are.cut.at bytes) = are.letters ∙ ap (drop 8) are.cut.after_is in
    let rest = length-drop 8 (drop are.cut.at bytes) in
    let front = length-drop are.cut.at bytes in
    let whole_length : length parts.letters ≡ length (drop 8 (drop are.cut.at bytes)) = ap length same in
    omega (arith, whole_length, rest, front)

pub accepts_answers : (bytes : List ℕ) (reply : Reply) → length bytes ≤ 16777216 → CanBeAccepted bytes → AcceptsOutcome bytes reply →
    is_yes_or_no reply.status ≡ true
accepts_answers bytes reply few can (without_letters none is) = absurd (none can.are_parts.cut.at can.are_parts.cut.first.is_line)
accepts_answers bytes reply few can (of_parts parts are outcome) =
    loop_answers can.parts can.input can.spelled can.holds (omega (arith, letters_short bytes can.parts can.are_parts, few)) reply
    (subst (λ (p : AcceptsParts). LoopOutcome p reply) (one_division bytes parts can.parts are can.are_parts) outcome)

same_told : {text : List ℕ} {bits states more_bits more_states : ℕ} {edges more_edges : List EdgeTree} →
    IsHoaText text bits states edges → IsHoaText text more_bits more_states more_edges →
    (bits ≡ more_bits) × (states ≡ more_states) × (edges ≡ more_edges)
same_told {text = text} {bits = bits} {states = states} {more_bits = more_bits} {more_states = more_states} {edges = edges}
    {more_edges = more_edges} there too =
    one_automaton text bits states more_bits more_states edges more_edges there too

-- the limits of an automaton are asked in their order, so that the one that is told is the first that is passed
module _ (text : List ℕ) (name : LimitName) (most : ℕ) where
  one_limit : (error other : HoaError) (fault : Fault) → IsHoaRefusal error text → IsAutomatonFault error (Large name most) →
      IsHoaRefusal other text → IsAutomatonFault other fault → fault ≡ Large name most
  one_limit (Form line) other fault past is past_too is_too = absurd cc
  one_limit NoMemory other fault past is past_too is_too = absurd is
  one_limit error NoMemory fault past is past_too is_too = absurd is_too
  one_limit Bits (Form line) fault past is wrong is_too =
      absurd (never_wrong text past.bits past.states line past.edges past.told wrong)
  one_limit States (Form line) fault past is wrong is_too =
      absurd (never_wrong text past.bits past.states line past.edges past.told wrong)
  one_limit Edges (Form line) fault past is wrong is_too =
      absurd (never_wrong text past.bits past.states line past.edges past.told wrong)
  one_limit Bits Bits fault past is past_too is_too = is_too ∙ sym is
  one_limit States States fault past is past_too is_too = is_too ∙ sym is
  one_limit Edges Edges fault past is past_too is_too = is_too ∙ sym is
  one_limit Bits States fault past is past_too is_too =
      let same = same_told past.told past_too.told in absurd (omega (arith, same.0, past.large, past_too.large.0))
  one_limit Bits Edges fault past is past_too is_too =
      let same = same_told past.told past_too.told in absurd (omega (arith, same.0, past.large, past_too.large.0))
  one_limit States Bits fault past is past_too is_too =
      let same = same_told past.told past_too.told in absurd (omega (arith, same.0, past.large.0, past_too.large))
  one_limit Edges Bits fault past is past_too is_too =
      let same = same_told past.told past_too.told in absurd (omega (arith, same.0, past.large.0, past_too.large))
  one_limit States Edges fault past is past_too is_too =
      let same = same_told past.told past_too.told in absurd (omega (arith, same.1, past.large.1, past_too.large.1))
  one_limit Edges States fault past is past_too is_too =
      let same = same_told past.told past_too.told in absurd (omega (arith, same.1, past.large.1, past_too.large.1))

pub accepts_tells_limits : (bytes : List ℕ) (parts : AcceptsParts) (error : HoaError) (name : LimitName) (most : ℕ) (reply : Reply) →
    AreAcceptsParts bytes parts → IsHoaRefusal error parts.automaton → IsAutomatonFault error (Large name most) →
    AcceptsOutcome bytes reply → reply ≡ fault_reply (Large name most)
accepts_tells_limits bytes parts error name most reply are past is_limit (without_letters none is) =
    absurd (none are.cut.at are.cut.first.is_line)
accepts_tells_limits bytes parts error name most reply are past is_limit (of_parts other are_too outcome) =
    by (subst (λ (p : AcceptsParts). LoopOutcome p reply) (one_division bytes other parts are_too are) outcome)
  where
    by : LoopOutcome parts reply → reply ≡ fault_reply (Large name most)
    by (automaton_refused second fault h is_fault is) =
        is ∙ ap fault_reply (one_limit parts.automaton name most error second fault past is_limit h is_fault)
    by (letters_refused bits states edges line there within wrong is) =
        absurd (automaton_stands parts.automaton bits states edges there within error (Large name most) past is_limit)
    by (both_spelled input there within holds exactly is) =
        absurd (automaton_stands parts.automaton input.bits input.states input.edges there.automaton within error (Large name most) past
        is_limit)
