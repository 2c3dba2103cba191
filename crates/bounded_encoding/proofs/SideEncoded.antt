-- An assignment that says the moves of a machine and the numbers of an annotation of it meets the clauses of its side.
use Rattle.std.proofs.Common.{◌≡◌, ◌∙◌, ℕ, ◌+◌, ◌-◌, ◌<◌, ◌≤◌, ◌==◌, Bool, true, false, List, Option, None, Some, slice_get, Contains}
use Rattle.std.proofs.Common.{refl, sym, ap, arith}
use Rattle.std.specs.Option.{option_map_or}
use Rattle.std.specs.Prelude.{nat_le}
use Rattle.std.proofs.lemmas.Bool.{eqb-true, leb-true, le-leb, false≢true}
use Rattle.base_library.proofs.Booleans.{eqb_self}
use Rattle.base_library.proofs.Each.{each_at}
use Rattle.base_library.proofs.Places.{contains_at}
use Rattle.ltl_formula.specs.Cubes.{cube_matches}
use Rattle.cobuchi_automata.specs.Automata.{EdgeTree}
use Rattle.machines.specs.Moves.{MoveTree}
use Rattle.annotation_check.specs.Annotations.{edges_from, IsAtLeast, after_edge, IsAnnotation}
use Rattle.annotation_check.proofs.LeavingEdges.{leaves}
use Rattle.annotation_check.proofs.PairNumbers.{number_there, at_least, more_than_at_least}
use Rattle.bounded_encoding.specs.Question.{JoinsStates}
use Rattle.bounded_encoding.specs.Frames.{FrameTree, next_at, number_at}
use Rattle.bounded_encoding.specs.Sides.{SideTree, IsSide}
use Rattle.bounded_encoding.proofs.SideDemands.{AreMet, IsAsAsked, IsNumbered}
use Rattle.bounded_encoding.proofs.SolutionsAreAssignments.ExactlyOne.{IsOneOf}

-- a number that is there and at least so large, as a test
abbrev pub reaches_number : ℕ → Option ℕ → Bool
reaches_number i o = option_map_or (λ n. nat_le i n) o false

at_least_from_test : (i : ℕ) (o : Option ℕ) → reaches_number i o ≡ true → IsAtLeast i o
at_least_from_test i None is = absurd (false≢true is)
at_least_from_test i (Some n) is = leb-true i n is

test_from_at_least : (i : ℕ) (o : Option ℕ) → IsAtLeast i o → reaches_number i o ≡ true
test_from_at_least i None is = absurd is
test_from_at_least i (Some n) is = le-leb i n is

module _ (z : SideTree) (side : IsSide z) (a : ℕ → Bool) (moves : ℕ → List MoveTree) where
  abbrev f : FrameTree
  f = z.frame

  -- what the assignment says of a state and a row is a move of the machine
  pub record SaysMove (s r : ℕ) : Type 0 where
    pub letter : ℕ
    pub next : ℕ
    pub within : next < f.states
    pub next_is : (t : ℕ) → t < f.states → a (next_at f s r t) ≡ (next == t)
    pub move : Contains (moves s) (record { letter = letter; next = next })
    pub matches : (j k : ℕ) (e : EdgeTree) → slice_get f.edges j ≡ Some e → slice_get (z.met e) k ≡ Some r → IsAsAsked z a e s r →
        cube_matches e.care e.want letter ≡ true

  module _ (number : ℕ → ℕ → Option ℕ) (annotation : IsAnnotation (edges_from f.edges) moves f.bound number)
      (says : (s r : ℕ) → s < f.states → r < f.rows → SaysMove s r)
      (number_is : (s p i : ℕ) → s < f.states → p < f.automaton_states → i < f.bound + 1 →
      a (number_at f s p i) ≡ reaches_number i (number s p)) where
    one_next : (s r : ℕ) → s < f.states → r < f.rows → IsOneOf (λ t. a (next_at f s r t)) 0 f.states
    one_next s r in_states in_rows =
        let here = says s r in_states in_rows in record {
          some = (here.next, omega arith, here.within, here.next_is here.next here.within ∙ eqb_self here.next);
          one = λ x y from below from_too below_too is is_too.
              sym (eqb-true here.next x (sym (here.next_is x below) ∙ is))
              ∙ eqb-true here.next y (sym (here.next_is y below_too) ∙ is_too);
        }

    -- along an edge that the letter matches the next pair is numbered as it asks
    after_is_numbered : (t next p i m : ℕ) → t < f.states → p < f.automaton_states → next ≡ t → number next p ≡ Some m → i ≤ m →
        IsNumbered z a t p i
    after_is_numbered t next p i m in_states in_automaton same numbered enough =
        let most = annotation.within next p m numbered in
        let within : i ≤ f.bound = omega (arith, enough, most) in (
          within,
          number_is t p i in_states in_automaton (omega (arith, within))
              ∙ test_from_at_least i (number t p) (at_least i m (number t p) (ap (λ k. number k p) (sym same) ∙ numbered) enough),
        )

    numbered_along : (s j r k t i : ℕ) (e : EdgeTree) → s < f.states → r < f.rows → slice_get f.edges j ≡ Some e →
        slice_get (z.met e) k ≡ Some r → t < f.states → i ≤ f.bound → a (number_at f s e.from i) ≡ true →
        a (next_at f s r t) ≡ true → IsAsAsked z a e s r → IsNumbered z a t e.to (after_edge i e)
    numbered_along s j r k t i e in_states in_rows at met_at in_states_too most numbered goes asked =
        let here = says s r in_states in_rows in
        let joins = each_at (JoinsStates f.automaton_states) f.edges j e side.between at in
        let from = number_there i (number s e.from) (at_least_from_test i (number s e.from)
        (sym (number_is s e.from i in_states joins.0 (omega arith)) ∙ numbered)) in
        let next = eqb-true here.next t (sym (here.next_is t in_states_too) ∙ goes) in
        let least = number_there (after_edge from.0 e) (number here.next e.to)
        (annotation.numbering.goes_on s e.from from.0 from.1 (record { letter = here.letter; next = here.next }) here.move e
        (leaves f.edges e.from e (contains_at f.edges j e at) refl) (here.matches j k e at met_at asked)) in
        let lower = from.2 in
        let higher = least.2 in
        after_is_numbered t here.next e.to (after_edge i e) least.0 in_states_too joins.1 next least.1 (omega (arith, lower, higher))

    pub are_met_by_moves : AreMet z a
    are_met_by_moves = record {
      nexts = one_next;
      start = number_is 0 0 0 side.has_state side.automaton_starts (omega arith)
          ∙ test_from_at_least 0 (number 0 0) annotation.numbering.start;
      fall = λ s p i in_states in_automaton some most is.
          number_is s p (i - 1) in_states in_automaton (omega arith)
          ∙ test_from_at_least (i - 1) (number s p) (more_than_at_least (i - 1) i (number s p) (omega arith)
          (at_least_from_test i (number s p) (sym (number_is s p i in_states in_automaton (omega arith)) ∙ is)));
      edges = λ s j r k t i e in_states at met_at in_states_too most numbered goes asked.
          numbered_along s j r k t i e in_states (each_at (λ x. x < f.rows) (z.met e) k r (side.met e) met_at) at met_at in_states_too
          most numbered goes asked;
    }
