-- The clauses of the question for an environment. A solution gives an assignment that meets them, and such an assignment a solution.
-- Source: Finkbeiner, Schewe: Bounded Synthesis (STTT 2013), annotations as constraints, with the machine's sides exchanged.
use Rattle.std.specs.Prelude.{ℕ, ◌*◌, ◌/◌, ◌^◌, Bool, List, filter}
use Rattle.clause_core.specs.Literals.{Lit}
use Rattle.ltl_formula.specs.Cubes.{cube_matches}
use Rattle.letter_space.specs.Letters.{letter_of}
use Rattle.letter_space.specs.Vectors.{picks_of}
use Rattle.cobuchi_automata.specs.Automata.{EdgeTree}
use Rattle.bounded_encoding.specs.Question.{QuestionTree}
use Rattle.bounded_encoding.specs.ClauseLists.{kept, below}
use Rattle.bounded_encoding.specs.Frames.{FrameTree}
use Rattle.bounded_encoding.specs.Sides.{SideTree, clauses_of_side}
use Rattle.counterstrategy.specs.DualVariables.{tests_in_all, vectors_in_all, before_moves}

-- the bits behind those of predicate terms
abbrev pub choice_bits_of : QuestionTree → ℕ → ℕ
choice_bits_of q letter = letter / 2 ^ tests_in_all q

-- the choices' bits of a vector
abbrev pub picked_bits : QuestionTree → ℕ → ℕ
picked_bits q u = choice_bits_of q (letter_of q.space 0 (picks_of q.space.controlled u))

-- The vectors that meet what an edge asks of choices: none where it wants a bit that the space lacks.
abbrev pub meets_choices : QuestionTree → EdgeTree → ℕ → Bool
meets_choices q e u = cube_matches (choice_bits_of q e.care) (choice_bits_of q e.want) (picked_bits q u)

abbrev pub met_vectors : QuestionTree → EdgeTree → List ℕ
met_vectors q e = filter (meets_choices q e) (below (vectors_in_all q))

-- The environment's side: its rows are vectors, and its own variables those of predicate terms, the same in each row.
abbrev pub environment_frame : QuestionTree → FrameTree
environment_frame q = record {
  automaton_states = q.automaton_states;
  edges = q.edges;
  states = q.states;
  rows = vectors_in_all q;
  bound = q.bound;
  own = before_moves q;
  first_bit = 0;
  bits = tests_in_all q;
}

abbrev pub environment_side : QuestionTree → SideTree
environment_side q = record {
  frame = environment_frame q;
  met = met_vectors q;
  base = λ s u. s * tests_in_all q;
}

-- Each state has one successor under each vector; the pair of both starts is numbered; a pair whose number is at least i has one of
-- at least i - 1; and from a numbered pair, under a vector and along an edge that the letter matches, the next pair is numbered as
-- the edge asks. Clauses that have a literal and its negation are left out.
abbrev pub dual_demands : QuestionTree → List (List Lit)
dual_demands q = clauses_of_side (environment_side q)

abbrev pub dual_encoding : QuestionTree → List (List Lit)
dual_encoding q = kept (dual_demands q)
