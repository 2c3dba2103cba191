-- What `accepts` reads of a text that `automaton` wrote.
use Rattle.std.specs.Prelude.{◌≡◌, ℕ, Bool, List, length}
use Rattle.line_formats.specs.Machine.{with_last_feed}
use Rattle.lasso_text.specs.LetterText.{LoopTree, IsLoop, loop_text}
use Rattle.tsl_terms.specs.SpecTree.{SpecTree, whole_formula}
use Rattle.tsl_meaning.specs.Lasso.{meets}
use Rattle.letter_space.specs.SpaceTree.{bit_count}
use Rattle.letter_space.specs.SpecSpace.{spec_space}
use Rattle.underapprox.specs.LetterLasso.{letter_lasso}
use Rattle.cobuchi_automata.specs.Automata.{StateTree, EdgeTree, IsAutomaton}
use Rattle.loop_acceptance.specs.Accepts.{loop_of}
use Rattle.automaton_text.specs.HoaText.{IsHoaText}
use Rattle.automaton_text.specs.HoaRefusals.{IsSmall}
use Rattle.exchange_commands.specs.Letters.{letters_of}
use Rattle.exchange_commands.specs.Automaton.{negated_form}
use Rattle.exchange_commands.specs.Accepts.{AcceptsParts, AreAcceptsParts}

-- The text tells an automaton over the bits of the specification, within the limits of `accepts`. Its states and edges are those of an
-- automaton of the negation of the whole formula.
pub record TellsNegation (spec : SpecTree) (text : List ℕ) : Type 0 where
  pub states : List StateTree
  pub edges : List EdgeTree
  pub is_automaton : IsAutomaton (negated_form spec) states edges
  pub told : IsHoaText text (bit_count (spec_space spec)) (length states) edges
  pub within : IsSmall (bit_count (spec_space spec)) (length states) edges

-- the bytes are a text, the line `letters` and a loop of letters over the bits of the specification
pub record AreWithLoop (spec : SpecTree) (text : List ℕ) (loop : LoopTree) (bytes : List ℕ) : Type 0 where
  pub parts : AcceptsParts
  pub are_parts : AreAcceptsParts bytes parts
  pub automaton : parts.automaton ≡ text
  pub is_loop : IsLoop (bit_count (spec_space spec)) loop
  pub letters : with_last_feed parts.letters ≡ loop_text loop

-- whether the whole formula holds on a loop of letters, where each test and each update is read from its bit
abbrev pub holds_on : SpecTree → LoopTree → Bool
holds_on spec loop =
    meets (letter_lasso (spec_space spec) (loop_of (letters_of loop.letters) loop.back)) (whole_formula spec) 0
