-- Internal: how the code goes on in a text. Only private functions of this crate use these words.
use Rattle.std.specs.Prelude.{◌≡◌, ℕ, true, not, List, [], ◌∷◌, ◌++◌}
use Rattle.std.specs.List.{list_all}
use Rattle.tsl_text.specs.Lines.{is_blank, has_bytes}
use Rattle.cnf_reader.specs.declared.places.Rest.{Rest}
use Rattle.cnf_reader.specs.declared.places.Word.{Word}
use Rattle.cnf_reader.specs.declared.told.Told.{Told}
use Rattle.cnf_reader.specs.CnfText.{CnfAnswer}
use Rattle.cnf_reader.specs.internal.Told.{Tells}
use Rattle.cnf_reader.specs.internal.RestOfText.{begins_with_blank, HasFewLines}
use Rattle.cnf_reader.specs.internal.Reading.{answer_left}

abbrev pub tells : Told → Tells
tells told = record { counts = told.counts; ended = told.ended; clauses = told.clauses; literals = told.literals.items }

-- what a text is from this place on, where these bytes come after those that are there
abbrev pub answer_from : Rest → Tells → List ℕ → CnfAnswer
answer_from rest told more = answer_left rest.stage told rest.number (rest.text.now ++ more)

-- the reader went on from this place to that one
pub record GoesOn (from to : Rest) : Type 0 where
  pub answer : (told : Tells) (more : List ℕ) → answer_from from told more ≡ answer_from to told more
  pub few : HasFewLines to.number to.text.now

-- bytes without a blank
abbrev pub IsInWord : List ℕ → Type 0
IsInWord bytes = list_all (λ byte. not (is_blank byte)) bytes ≡ true

-- What is kept where a piece ends: the beginning of a word; or a line feed, behind which a line may begin; or that and the
-- beginning of a comment.
pub data IsKept (text : List ℕ) : Type 0 where
  in_word : IsInWord text → IsKept text
  at_feed : text ≡ 10 ∷ [] → IsKept text
  in_comment : text ≡ 10 ∷ 99 ∷ [] → IsKept text

-- the next word is this one, and behind it stands a blank
pub record HasNext (from : Rest) (word : Word) (later : Rest) : Type 0 where
  pub answer : (told : Tells) (more : List ℕ) →
      answer_from from told more ≡ answer_left later.stage told later.number (word.bytes.now ++ (later.text.now ++ more))
  pub few : HasFewLines later.number later.text.now
  pub line : word.line ≡ later.number
  pub some : has_bytes word.bytes.now ≡ true
  pub whole : IsInWord word.bytes.now
  pub ends : begins_with_blank later.text.now ≡ true
