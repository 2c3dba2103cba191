-- Internal: only private functions of this crate use these words.
-- Questions for environments as they are asked.
use Rattle.std.specs.Prelude.{◌≡◌, ◌<◌, ◌+◌, ◌^◌, ℕ, List, map}
use Rattle.letter_space.specs.SpaceTree.{SpaceTree}
use Rattle.letter_space.specs.Letters.{letter_of}
use Rattle.letter_space.specs.Vectors.{picks_of}
use Rattle.bounded_encoding.specs.ClauseLists.{below}
use Rattle.bounded_encoding.specs.Question.{QuestionTree, IsPosed}
use Rattle.bounded_encoding.specs.QuestionView.{question_of}
use Rattle.counterstrategy.specs.DualVariables.{tests_in_all, vectors_in_all, dual_variable_count}
use Rattle.counterstrategy.specs.declared.dual_asking.DualQuestion.{DualQuestion}

-- the pure value of a question
abbrev pub dual_tree : DualQuestion → QuestionTree
dual_tree q = question_of q.automaton.now q.space.now q.states q.bound

-- the letter of what a vector picks, where no predicate term is true, and those of the vectors below a number
abbrev pub vector_letter : SpaceTree → ℕ → ℕ
vector_letter space u = letter_of space 0 (picks_of space.controlled u)

abbrev pub vector_letters : SpaceTree → ℕ → List ℕ
vector_letters space n = map (vector_letter space) (below n)

-- What holds of a question that is asked: its counts are right, and its variables have numbers that fit.
pub record IsDualCounted (q : DualQuestion) : Type 0 where
  pub posed : IsPosed (dual_tree q)
  pub tests : q.tests ≡ tests_in_all (dual_tree q)
  pub vectors : q.vectors ≡ vectors_in_all (dual_tree q)
  pub letters : q.letters.now ≡ vector_letters (dual_tree q).space (vectors_in_all (dual_tree q))
  pub few : dual_variable_count (dual_tree q) < 2 ^ 31
  pub low_bound : q.bound + 1 < 2 ^ 31
