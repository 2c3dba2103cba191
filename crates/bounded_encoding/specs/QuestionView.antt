-- The question that is asked of an automaton, a space, a number of states and a bound.
use Rattle.std.specs.Prelude.{ℕ}
use Rattle.letter_space.specs.declared.space.Space.{Space}
use Rattle.letter_space.specs.SpaceView.{space_tree}
use Rattle.cobuchi_automata.specs.declared.automaton.Automaton.{Automaton}
use Rattle.cobuchi_automata.specs.Edges.{edge_trees}
use Rattle.bounded_encoding.specs.Question.{QuestionTree}

abbrev pub question_of : Automaton → Space → ℕ → ℕ → QuestionTree
question_of automaton space states bound = record {
  space = space_tree space;
  automaton_states = automaton.states;
  edges = edge_trees automaton.edges;
  states = states;
  bound = bound;
}
