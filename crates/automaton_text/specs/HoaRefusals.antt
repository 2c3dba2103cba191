-- Why a text is refused as that of an automaton: it is none, or its automaton is too large.
use Rattle.std.specs.Prelude.{ℕ, ◌<◌, ◌≤◌, List, length, ⊤}
use Rattle.line_formats.specs.Machine.{IsFirstWrong}
use Rattle.letter_space.specs.declared.limits.TheConstants.{MOST_BITS}
use Rattle.cobuchi_automata.specs.Automata.{EdgeTree}
use Rattle.cobuchi_automata.specs.Refusals.{most_automaton_states, most_automaton_edges}
use Rattle.automaton_text.specs.declared.hoa_error.HoaError.{HoaError}
use Rattle.automaton_text.specs.declared.hoa_error.HoaError.TheVariants.{Form, Bits, States, Edges, NoMemory}
use Rattle.automaton_text.specs.HoaText.{IsHoaText}
use Rattle.automaton_text.specs.HoaLines.{step, whole, fresh}

-- the text of an automaton of which something holds
pub record TellsOf (text : List ℕ) (Large : ℕ → ℕ → List EdgeTree → Type 0) : Type 0 where
  pub bits : ℕ
  pub states : ℕ
  pub edges : List EdgeTree
  pub told : IsHoaText text bits states edges
  pub large : Large bits states edges

-- What a refusal says. A text of which no automaton is told is refused for its first wrong line, and limits are asked in this
-- order.
abbrev pub IsHoaRefusal : HoaError → List ℕ → Type 0
IsHoaRefusal (Form line) text = IsFirstWrong step whole fresh text line
IsHoaRefusal Bits text = TellsOf text (λ bits states edges. MOST_BITS < bits)
IsHoaRefusal States text = TellsOf text (λ bits states edges. (bits ≤ MOST_BITS) × (most_automaton_states < states))
IsHoaRefusal Edges text =
    TellsOf text (λ bits states edges. (bits ≤ MOST_BITS) × (states ≤ most_automaton_states) × (most_automaton_edges < length edges))
IsHoaRefusal NoMemory text = ⊤

-- an automaton within the limits
pub record IsSmall (bits states : ℕ) (edges : List EdgeTree) : Type 0 where
  pub few_bits : bits ≤ MOST_BITS
  pub few_states : states ≤ most_automaton_states
  pub few_edges : length edges ≤ most_automaton_edges
