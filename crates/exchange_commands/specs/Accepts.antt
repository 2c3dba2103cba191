-- What the command `accepts` replies.
use Rattle.std.specs.Prelude.{◌≡◌, ◌↔◌, ℕ, Bool, true, false, List, drop, codes}
use Rattle.letter_space.specs.declared.limits.TheConstants.{MOST_BITS}
use Rattle.line_formats.specs.Machine.{IsFirstWrong, with_last_feed}
use Rattle.lasso_text.specs.LetterText.{LoopTree, IsLoop, loop_text, step, whole, fresh}
use Rattle.ltl_formula.specs.LetterLoop.{LetterLoop}
use Rattle.cobuchi_automata.specs.Automata.{EdgeTree}
use Rattle.cobuchi_automata.specs.Refusals.{most_automaton_states, most_automaton_edges}
use Rattle.loop_acceptance.specs.Accepts.{Accepts, loop_of}
use Rattle.automaton_text.specs.declared.hoa_error.HoaError.{HoaError}
use Rattle.automaton_text.specs.declared.hoa_error.HoaError.TheVariants.{Form, Bits, States, Edges, NoMemory}
use Rattle.automaton_text.specs.HoaText.{IsHoaText}
use Rattle.automaton_text.specs.HoaRefusals.{IsHoaRefusal, IsSmall}
use Rattle.tsl_report.specs.declared.fault.Head.TheVariants.{Letters}
use Rattle.tsl_report.specs.declared.fault.LimitName.TheVariants.{Bits as BitLimit, States as StateLimit, Edges as EdgeLimit}
use Rattle.tsl_report.specs.declared.fault.Fault.{Fault}
use Rattle.tsl_report.specs.declared.fault.Fault.TheVariants.{Parts, AutomatonForm, LettersForm, Large}
use Rattle.tool_io.specs.declared.status.Status.TheVariants.{Done, No}
use Rattle.tool_io.specs.declared.reply.Reply.{Reply}
use Rattle.command_faults.specs.HeadLines.{HasNoLine, IsCutBefore}
use Rattle.command_faults.specs.Replies.{fault_reply}
use Rattle.exchange_commands.specs.Letters.{letters_of}

-- ---- what the parts spell

-- the line between an automaton and a loop of letters
abbrev pub letters_line : List ℕ
letters_line = codes "letters"

-- the text of an automaton, and that of a loop of letters
pub record AcceptsParts : Type 0 where
  pub automaton : List ℕ
  pub letters : List ℕ

-- the automaton is all before the first line `letters`, and the letters are all after that line
pub record AreAcceptsParts (bytes : List ℕ) (parts : AcceptsParts) : Type 0 where
  pub from_line : List ℕ
  pub cut : IsCutBefore bytes letters_line parts.automaton from_line
  pub letters : parts.letters ≡ drop 8 from_line

-- an automaton over so many propositions, and a loop of letters over them
pub record AcceptsInput : Type 0 where
  pub bits : ℕ
  pub states : ℕ
  pub edges : List EdgeTree
  pub letters : LoopTree

pub record SpellAcceptsInput (parts : AcceptsParts) (input : AcceptsInput) : Type 0 where
  pub automaton : IsHoaText parts.automaton input.bits input.states input.edges
  pub is_loop : IsLoop input.bits input.letters
  pub letters : with_last_feed parts.letters ≡ loop_text input.letters

-- the letters as numbers
abbrev pub input_loop : AcceptsInput → LetterLoop
input_loop input = loop_of (letters_of input.letters.letters) input.letters.back

-- the automaton accepts the loop
abbrev pub AcceptsInputLoop : AcceptsInput → Type 0
AcceptsInputLoop input = Accepts input.edges (input_loop input)

-- ---- the reply

abbrev pub verdict_reply : Bool → Reply
verdict_reply true = record { status = Done; text = codes "accepted\n" }
verdict_reply false = record { status = No; text = codes "rejected\n" }

-- the fault of a refusal of an automaton
abbrev pub IsAutomatonFault : HoaError → Fault → Type 0
IsAutomatonFault (Form line) fault = fault ≡ AutomatonForm line
IsAutomatonFault Bits fault = fault ≡ Large BitLimit MOST_BITS
IsAutomatonFault States fault = fault ≡ Large StateLimit most_automaton_states
IsAutomatonFault Edges fault = fault ≡ Large EdgeLimit most_automaton_edges
IsAutomatonFault NoMemory fault = ⊥

pub data LoopOutcome (parts : AcceptsParts) (reply : Reply) : Type 0 where
  -- the automaton is refused
  automaton_refused : (error : HoaError) (fault : Fault) → IsHoaRefusal error parts.automaton → IsAutomatonFault error fault →
      reply ≡ fault_reply fault → LoopOutcome parts reply
  -- an automaton within the limits is spelled, and this is the first line with which no loop of letters over its propositions goes on
  letters_refused : (bits states : ℕ) (edges : List EdgeTree) (line : ℕ) → IsHoaText parts.automaton bits states edges →
      IsSmall bits states edges → IsFirstWrong step whole (fresh bits) (with_last_feed parts.letters) line → reply ≡ fault_reply (LettersForm line) →
      LoopOutcome parts reply
  -- both are spelled, the automaton within the limits, and the verdict is that it accepts exactly where the automaton accepts the loop
  both_spelled : (input : AcceptsInput) → SpellAcceptsInput parts input → IsSmall input.bits input.states input.edges → (holds : Bool) →
      (holds ≡ true) ↔ AcceptsInputLoop input →
      reply ≡ verdict_reply holds → LoopOutcome parts reply

pub data AcceptsOutcome (bytes : List ℕ) (reply : Reply) : Type 0 where
  -- no line is `letters`
  without_letters : HasNoLine bytes letters_line → reply ≡ fault_reply (Parts Letters) → AcceptsOutcome bytes reply
  -- there are both parts
  of_parts : (parts : AcceptsParts) → AreAcceptsParts bytes parts → LoopOutcome parts reply → AcceptsOutcome bytes reply

-- ---- what the answers promise

-- the parts of the bytes spell an automaton and a loop of letters, of which this holds
pub record OfAcceptsInput (bytes : List ℕ) (P : AcceptsInput → Type 0) : Type 0 where
  pub parts : AcceptsParts
  pub are_parts : AreAcceptsParts bytes parts
  pub input : AcceptsInput
  pub spelled : SpellAcceptsInput parts input
  pub holds : P input

-- it does not
abbrev pub RejectsInputLoop : AcceptsInput → Type 0
RejectsInputLoop input = AcceptsInputLoop input → ⊥
