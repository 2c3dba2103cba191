-- What the text of an automaton says, and the first line with which no text of an automaton goes on.
use Rattle.std.specs.Prelude.{◌≡◌, ℕ, suc, true, List, [], ◌∷◌, ◌++◌, length, IsTrue}
use Rattle.std.specs.List.{list_all}
use Rattle.tsl_text.specs.Written.{is_line, text_of_lines}
use Rattle.cobuchi_automata.specs.Automata.{EdgeTree}
use Rattle.automaton_text.specs.HoaText.{IsHoa, hoa_text}
use Rattle.automaton_text.specs.HoaLines.{State}

-- what all lines of an automaton say, whose edges are in the order of their first states
abbrev pub said_of : List (List ℕ) → ℕ → List EdgeTree → State
said_of names states edges =
    record { passed = 7; states = states; names = names; bits = length names; begun = states; edges = edges; ended = true }

-- the text of some automaton begins so
abbrev pub Begins : List ℕ → Type 0
Begins front =
    (names : List (List ℕ)) × (states : ℕ) × (edges : List EdgeTree) × IsHoa names states edges × (rest : List ℕ)
    × (hoa_text names states edges ≡ front ++ rest)

-- The line with this number, from 1, is the first wrong one of a text: the text of some automaton begins with the lines before it,
-- but none with these and it, and the text itself is that of no automaton.
pub record IsFirstWrongLine (text : List ℕ) (line : ℕ) : Type 0 where
  pub before : List (List ℕ)
  pub after : List ℕ
  pub split : text ≡ text_of_lines before ++ after
  pub are_lines : IsTrue (list_all is_line before)
  pub number : line ≡ suc (length before)
  pub goes_on : Begins (text_of_lines before)
  pub here : (next rest : List ℕ) → after ≡ next ++ 10 ∷ rest → IsTrue (is_line next) →
      Begins (text_of_lines before ++ (next ++ 10 ∷ [])) → ⊥
  pub none : (names : List (List ℕ)) (states : ℕ) (edges : List EdgeTree) → IsHoa names states edges → text ≡ hoa_text names states edges → ⊥
