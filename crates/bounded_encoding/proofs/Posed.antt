-- Questions that are asked of an automaton and a space, and questions whose clauses no assignment meets.
use Rattle.std.proofs.Common.{ℕ, ◌≤◌, sym, ◌∙◌}
use Rattle.std.proofs.lemmas.Bool.{false≢true}
use Rattle.std.proofs.lemmas.List.Elements.{recursion_from_All}
use Rattle.base_library.proofs.Each.{each_map, each_from_places}
use Rattle.letter_space.specs.declared.space.Space.{Space}
use Rattle.cobuchi_automata.specs.declared.automaton.Automaton.{Automaton}
use Rattle.cobuchi_automata.specs.Edges.{edge_tree, IsBetween}
use Rattle.clause_core.specs.Clauses.{AreUnsatisfiable}
use Rattle.bounded_encoding.specs.Question.{QuestionTree, IsPosed, HasNoController, JoinsStates, WantsAsked}
use Rattle.bounded_encoding.specs.QuestionView.{question_of}
use Rattle.bounded_encoding.specs.Encoding.{encoding}
use Rattle.bounded_encoding.proofs.SolutionsAreAssignments.Demands.{encoding_is_met}
use Rattle.bounded_encoding.proofs.SolutionsAreAssignments.Encoded.{assignment, are_met_by_it}

-- what the types of an automaton and a space keep makes each question one that is posed
pub is_posed : (automaton : Automaton) (space : Space) (states bound : ℕ) → 1 ≤ states → IsPosed (question_of automaton space states bound)
is_posed automaton space states bound some = record {
  space = space.is_space;
  has_state = some;
  automaton_starts = automaton.starts;
  between = each_map (JoinsStates automaton.states) edge_tree automaton.edges
      (recursion_from_All (IsBetween automaton.states) automaton.edges automaton.between);
  within = each_map WantsAsked edge_tree automaton.edges (each_from_places _ automaton.edges (λ i e at. e.cube.within));
}

-- where no assignment meets the clauses there is no controller
pub none_from_unsatisfiable : (q : QuestionTree) → IsPosed q → AreUnsatisfiable (encoding q) → HasNoController q
none_from_unsatisfiable q posed never c number solution =
    false≢true (sym (never (assignment q posed c number solution))
    ∙ encoding_is_met q (assignment q posed c number solution) (are_met_by_it q posed c number solution))
