-- What the text of a loop of letters says, and the first line with which no text of a loop goes on.
use Rattle.std.specs.Prelude.{◌≡◌, ℕ, suc, List, [], ◌∷◌, ◌++◌, length, Some, IsTrue}
use Rattle.std.specs.List.{list_all}
use Rattle.tsl_text.specs.Written.{is_line, text_of_lines}
use Rattle.lasso_text.specs.LetterText.{LoopTree, IsLoop, loop_text, State}

-- what all lines of a loop say
abbrev pub said_of : ℕ → LoopTree → State
said_of bits loop = record { bits = bits; letters = loop.letters; back = Some loop.back }

-- the text of some loop over so many propositions begins so
abbrev pub Begins : ℕ → List ℕ → Type 0
Begins bits front = (loop : LoopTree) × IsLoop bits loop × (rest : List ℕ) × (loop_text loop ≡ front ++ rest)

-- The line with this number, from 1, is the first wrong one of a text: the text of some loop begins with the lines before it, but
-- none with these and it, and the text itself is that of no loop.
pub record IsFirstWrongLine (bits : ℕ) (text : List ℕ) (line : ℕ) : Type 0 where
  pub before : List (List ℕ)
  pub after : List ℕ
  pub split : text ≡ text_of_lines before ++ after
  pub are_lines : IsTrue (list_all is_line before)
  pub number : line ≡ suc (length before)
  pub goes_on : Begins bits (text_of_lines before)
  pub here : (next rest : List ℕ) → after ≡ next ++ 10 ∷ rest → IsTrue (is_line next) →
      Begins bits (text_of_lines before ++ (next ++ 10 ∷ [])) → ⊥
  pub none : (loop : LoopTree) → IsLoop bits loop → text ≡ loop_text loop → ⊥
