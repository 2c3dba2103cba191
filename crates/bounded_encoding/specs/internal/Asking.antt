-- Internal: only private functions of this crate use these words.
-- Questions as they are asked.
use Rattle.std.specs.Prelude.{◌≡◌, ◌<◌, ◌≤◌, ◌+◌, ◌^◌, List, map, length}
use Rattle.letter_space.specs.SpaceTree.{ControlledTree}
use Rattle.letter_space.specs.ControlledView.{controlled_tree}
use Rattle.letter_space.specs.declared.controlled.Controlled.{Controlled}
use Rattle.bounded_encoding.specs.Question.{QuestionTree, IsPosed}
use Rattle.bounded_encoding.specs.QuestionView.{question_of}
use Rattle.bounded_encoding.specs.Variables.{valuations_of, choices_in_all, variable_count}
use Rattle.bounded_encoding.specs.declared.asking.Question.{Question}

-- the pure value of a question
abbrev pub tree_of : Question → QuestionTree
tree_of q = question_of q.automaton.now q.space.now q.states q.bound

-- signals as pure values
abbrev pub controlled_trees : List Controlled → List ControlledTree
controlled_trees signals = map controlled_tree signals

-- a signal's choices are among all choices
abbrev pub IsPlaced : QuestionTree → ControlledTree → Type 0
IsPlaced q g = (length q.space.predicates ≤ g.first) × (g.first + length g.choices ≤ length q.space.predicates + choices_in_all q)

-- What holds of a question that is asked: its counts are right, and its variables have numbers that fit.
pub record IsCounted (q : Question) : Type 0 where
  pub posed : IsPosed (tree_of q)
  pub predicates : q.predicates ≡ length (tree_of q).space.predicates
  pub valuations : q.valuations ≡ valuations_of (tree_of q)
  pub choices : q.choices ≡ choices_in_all (tree_of q)
  pub few : variable_count (tree_of q) < 2 ^ 31
  pub low_bound : q.bound + 1 < 2 ^ 31
