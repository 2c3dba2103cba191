-- The clauses of the question for a controller. A solution gives an assignment that meets them, and such an assignment a solution.
-- Source: Finkbeiner, Schewe: Bounded Synthesis (STTT 2013), annotations of controllers as constraints.
use Rattle.std.specs.Prelude.{ℕ, ◌+◌, ◌-◌, ◌*◌, ◌^◌, ◌%◌, nat_le, not, cond, Bool, List, [], ◌++◌, map, filter, length}
use Rattle.std.specs.List.{flat_map}
use Rattle.clause_core.specs.Literals.{Lit}
use Rattle.ltl_formula.specs.Cubes.{has_bit, cube_matches}
use Rattle.letter_space.specs.SpaceTree.{ControlledTree, bit_count}
use Rattle.cobuchi_automata.specs.Automata.{EdgeTree}
use Rattle.annotation_check.specs.Annotations.{after_edge}
use Rattle.bounded_encoding.specs.Question.{QuestionTree}
use Rattle.bounded_encoding.specs.ClauseLists.{kept, below, each}
use Rattle.bounded_encoding.specs.SimpleClauses.{exactly_one}
use Rattle.bounded_encoding.specs.Frames.{FrameTree}
use Rattle.bounded_encoding.specs.Sides.{SideTree, numbered, clause_along, clauses_to, clauses_under, clauses_along, clauses_in, clauses_of_edges}
use Rattle.bounded_encoding.specs.Sides.{clauses_of_nexts, clauses_of_start, clauses_of_numbers, clauses_of_side}
use Rattle.bounded_encoding.specs.Variables.{chooses, valuations_of, choices_in_all, before_next, index_of}

-- Each signal takes one choice, in each state and under each valuation.
abbrev pub first_choice : QuestionTree → ControlledTree → ℕ
first_choice q g = g.first - length q.space.predicates

abbrev pub signal_clauses : QuestionTree → ℕ → ℕ → ControlledTree → List (List Lit)
signal_clauses q s v g = exactly_one (λ b. index_of q (chooses s v b)) (first_choice q g) (first_choice q g + length g.choices)

abbrev pub choices_under : QuestionTree → ℕ → ℕ → List (List Lit)
choices_under q s v = flat_map (signal_clauses q s v) q.space.controlled

abbrev pub choices_in : QuestionTree → ℕ → List (List Lit)
choices_in q s = each 0 (valuations_of q) (choices_under q s)

abbrev pub choice_clauses : QuestionTree → List (List Lit)
choice_clauses q = each 0 q.states (choices_in q)

-- The numbers below two to the n, as truths of n bits, that meet what a cube asks of these.
abbrev pub meeting : ℕ → ℕ → ℕ → List ℕ
meeting n care want = filter (cube_matches care want) (below (2 ^ n))

-- the valuations that meet what an edge asks of predicate terms: none where it wants a bit that the space lacks
abbrev pub met_valuations : QuestionTree → EdgeTree → List ℕ
met_valuations q e = cond (nat_le (2 ^ bit_count q.space) e.want) []
    (meeting (length q.space.predicates) (e.care % 2 ^ length q.space.predicates) (e.want % 2 ^ length q.space.predicates))

-- the literals that are true where choices are not as an edge asks: one for each choice that it asks for
abbrev pub asks_choice : QuestionTree → EdgeTree → ℕ → Bool
asks_choice q e b = has_bit (length q.space.predicates + b) e.care

abbrev pub asked_literal : QuestionTree → EdgeTree → ℕ → ℕ → ℕ → Lit
asked_literal q e s v b = record {
  index = index_of q (chooses s v b);
  positive = not (has_bit (length q.space.predicates + b) e.want);
}

abbrev pub asked_of_choices : QuestionTree → EdgeTree → ℕ → ℕ → List Lit
asked_of_choices q e s v = map (asked_literal q e s v) (filter (asks_choice q e) (below (choices_in_all q)))

-- The controller's side: its rows are valuations, and its own variables those of choices.
abbrev pub controller_frame : QuestionTree → FrameTree
controller_frame q = record {
  automaton_states = q.automaton_states;
  edges = q.edges;
  states = q.states;
  rows = valuations_of q;
  bound = q.bound;
  own = before_next q;
  first_bit = length q.space.predicates;
  bits = choices_in_all q;
}

abbrev pub controller_side : QuestionTree → SideTree
controller_side q = record {
  frame = controller_frame q;
  met = met_valuations q;
  base = λ s v. (s * valuations_of q + v) * choices_in_all q;
}

-- Each state has one next state under each valuation; the pair of both starts is numbered; a pair whose number is at least i has
-- one of at least i - 1.
abbrev pub next_clauses : QuestionTree → List (List Lit)
next_clauses q = clauses_of_nexts (controller_frame q)

abbrev pub start_clauses : QuestionTree → List (List Lit)
start_clauses q = clauses_of_start (controller_frame q)

abbrev pub number_clauses : QuestionTree → List (List Lit)
number_clauses q = clauses_of_numbers (controller_frame q)

-- From a numbered pair, under a valuation and along an edge that the letter matches, the next pair is numbered as the edge asks.
abbrev pub numbered_after : QuestionTree → EdgeTree → ℕ → ℕ → List Lit
numbered_after q e t i = numbered (controller_frame q) t e.to (after_edge i e)

abbrev pub transition_clause : QuestionTree → ℕ → EdgeTree → ℕ → ℕ → ℕ → List Lit
transition_clause q s e v t i = clause_along (controller_frame q) (asked_of_choices q e s v) s e v t i

abbrev pub transitions_to : QuestionTree → ℕ → EdgeTree → ℕ → ℕ → List (List Lit)
transitions_to q s e v t = clauses_to (controller_frame q) (asked_of_choices q e s v) s e v t

abbrev pub transitions_under : QuestionTree → ℕ → EdgeTree → ℕ → List (List Lit)
transitions_under q s e v = clauses_under (controller_side q) s e v

abbrev pub transitions_along : QuestionTree → ℕ → EdgeTree → List (List Lit)
transitions_along q s e = clauses_along (controller_side q) s e

abbrev pub transitions_in : QuestionTree → ℕ → List (List Lit)
transitions_in q s = clauses_in (controller_side q) s

abbrev pub transition_clauses : QuestionTree → List (List Lit)
transition_clauses q = clauses_of_edges (controller_side q)

-- all of these, without those that have a literal and its negation
abbrev pub demands : QuestionTree → List (List Lit)
demands q = choice_clauses q ++ clauses_of_side (controller_side q)

abbrev pub encoding : QuestionTree → List (List Lit)
encoding q = kept (demands q)
