-- How many clauses the question for a specification has does not depend on how its automaton is numbered.
use Rattle.std.proofs.Common.{◌≡◌, ◌∙◌, ℕ, zero, suc, ◌+◌, ◌-◌, ◌^◌, ◌%◌, ◌<◌, ◌≤◌, nat_le, Bool, true, false, cond}
use Rattle.std.proofs.Common.{List, [], ◌∷◌, ◌++◌, length, Some, slice_get, refl, sym, ap, subst, arith}
use Rattle.std.specs.List.{flat_map, range_with_len, sum_by}
use Rattle.std.proofs.lemmas.Option.{none-some, same_Some, slice_get_within}
use Rattle.base_library.proofs.Booleans.{same_tests}
use Rattle.base_library.proofs.Each.{each_at}
use Rattle.base_library.proofs.Options.{one_value}
use Rattle.base_library.proofs.Places.{contains_at}
use Rattle.ltl_formula.specs.LtlTree.{LtlTree}
use Rattle.ltl_formula.specs.Cubes.{cube_matches}
use Rattle.letter_space.specs.SpaceTree.{bit_count}
use Rattle.cobuchi_automata.specs.Automata.{StateTree, EdgeTree, untils_of, state_after, IsOfChoice, IsAutomaton}
use Rattle.cobuchi_automata.specs.Refusals.{Transition}
use Rattle.cobuchi_automata.specs.Renumbering.{Joins}
use Rattle.cobuchi_automata.proofs.AutomatonLemmas.{renumbered}
use Rattle.tsl_terms.specs.SpecTree.{SpecTree}
use Rattle.tsl_terms.specs.WindowTree.{WindowTree}
use Rattle.machines.specs.declared.side.Side.TheVariants.{Controller}
use Rattle.program_check.specs.Verdicts.{form_for}
use Rattle.clause_core.specs.Literals.{Lit}
use Rattle.clause_core.specs.Clauses.{has_pair}
use Rattle.bounded_encoding.specs.Question.{QuestionTree, JoinsStates}
use Rattle.bounded_encoding.specs.ClauseLists.{between}
use Rattle.bounded_encoding.specs.Variables.{valuations_of}
use Rattle.bounded_encoding.specs.Encoding.{meeting, met_valuations, transition_clause, transitions_to, transitions_under}
use Rattle.bounded_encoding.specs.Encoding.{transitions_along, transitions_in, transition_clauses}
use Rattle.bounded_encoding.specs.Encoding.{choice_clauses, next_clauses, start_clauses, number_clauses}
use Rattle.bounded_encoding.specs.Encoding.{encoding}
use Rattle.bounded_encoding.proofs.SolutionsAreAssignments.MovesHeld.{place_of}
use Rattle.bounded_encoding.proofs.Ranges.{filtered_in_range}
use Rattle.refinement_loop.specs.declared.outcome.Bound.{Bound}
use Rattle.refinement_loop.specs.Questions.{IsAsked}
use Rattle.refinement_loop.proofs.OneBound.{same_automaton_states, same_bound}
use Rattle.refinement_loop.proofs.MatchedSums.{HasMatch, sum_matched}
use Rattle.refinement_loop.proofs.KeptCounts.{kept_count, count_joined, count_of_all, same_counts, same_count_of_one}
use Rattle.refinement_loop.proofs.LoopPairs.{AreAlike, pair_there}

-- members of a range
in_range : (a n k x : ℕ) → slice_get (range_with_len a n) k ≡ Some x → x < a + n
in_range a zero k x at = absurd (none-some x at)
in_range a (suc n) zero x at = let same : a ≡ x = same_Some a x at in omega (arith, same)
in_range a (suc n) (suc k) x at = omega (arith, in_range (a + 1) n k x at)

below_count : (n k x : ℕ) → slice_get (between 0 n) k ≡ Some x → x < n
below_count n k x at = omega (arith, in_range 0 (n - 0) k x at)

-- the clauses of two edges that are alike
module _ (q : QuestionTree) (s : ℕ) (in_states : s < q.states) where
  module _ (e d : EdgeTree) (alike : AreAlike e d) (back : AreAlike d e) (joins : JoinsStates q.automaton_states e)
      (joins_too : JoinsStates q.automaton_states d) where
    valuation_below : (k v : ℕ) → slice_get (met_valuations q d) k ≡ Some v → v < valuations_of q
    valuation_below k v at = by (nat_le (2 ^ bit_count q.space) d.want) at
      where
        by : (b : Bool) →
            slice_get (cond b [] (meeting (length q.space.predicates) (d.care % 2 ^ length q.space.predicates)
            (d.want % 2 ^ length q.space.predicates))) k ≡ Some v → v < valuations_of q
        by true none = absurd (none-some v none)
        by false there =
            let found = filtered_in_range (cube_matches (d.care % 2 ^ length q.space.predicates) (d.want % 2 ^ length q.space.predicates))
            0 (2 ^ length q.space.predicates) k v there in
            omega (arith, found.1)

    one_each : (v t i : ℕ) → v < valuations_of q → t < q.states → i < q.bound + 1 →
        kept_count (transition_clause q s e v t i ∷ []) ≡ kept_count (transition_clause q s d v t i ∷ [])
    one_each v t i in_valuations to_states in_bound =
        same_count_of_one (transition_clause q s e v t i) (transition_clause q s d v t i)
        (same_tests (has_pair (transition_clause q s e v t i)) (has_pair (transition_clause q s d v t i))
        (pair_there q s v t i in_states in_valuations to_states in_bound e d alike joins)
        (pair_there q s v t i in_states in_valuations to_states in_bound d e back joins_too))

    as_many_to : (v t : ℕ) → v < valuations_of q → t < q.states →
        kept_count (transitions_to q s e v t) ≡ kept_count (transitions_to q s d v t)
    as_many_to v t in_valuations to_states =
        same_counts (λ i. transition_clause q s e v t i ∷ []) (λ i. transition_clause q s d v t i ∷ []) (between 0 (q.bound + 1))
        (λ k i at. one_each v t i in_valuations to_states (below_count (q.bound + 1) k i at))

    as_many_under : (v : ℕ) → v < valuations_of q → kept_count (transitions_under q s e v) ≡ kept_count (transitions_under q s d v)
    as_many_under v in_valuations =
        same_counts (transitions_to q s e v) (transitions_to q s d v) (between 0 q.states)
        (λ k t at. as_many_to v t in_valuations (below_count q.states k t at))

    pub as_many_along : kept_count (transitions_along q s e) ≡ kept_count (transitions_along q s d)
    as_many_along =
        (λ k. kept_count (flat_map (transitions_under q s e) (cond (nat_le (2 ^ bit_count q.space) (alike.want k)) []
        (meeting (length q.space.predicates) (alike.care k % 2 ^ length q.space.predicates)
        (alike.want k % 2 ^ length q.space.predicates)))))
        ∙ same_counts (transitions_under q s e) (transitions_under q s d) (met_valuations q d)
        (λ k v at. as_many_under v (valuation_below k v at))

-- an edge of one automaton and the edge of another one for the same transition
record IsMatched (states more_states : List StateTree) (e d : EdgeTree) : Type 0 where
  transition : Transition
  left : Joins states e transition
  right : Joins more_states d transition

module _ (q : QuestionTree) (s : ℕ) (in_states : s < q.states) (f : LtlTree) (states : List StateTree) (edges : List EdgeTree)
    (more_states : List StateTree) (more_edges : List EdgeTree) (one : IsAutomaton f states edges)
    (other : IsAutomaton f more_states more_edges) (count : length states ≡ q.automaton_states)
    (more_count : length more_states ≡ q.automaton_states) where
  alone : (x z y : EdgeTree) → IsMatched states more_states x y → IsMatched states more_states z y → x ≡ z
  alone x z y first second =
      let from : first.transition.from ≡ second.transition.from =
      one_value (slice_get more_states y.from) first.transition.from second.transition.from first.right.from second.right.from in
      let to : first.transition.to ≡ second.transition.to =
      one_value (slice_get more_states y.to) first.transition.to second.transition.to first.right.to second.right.to in
      let from_is : x.from ≡ z.from =
      one.once x.from z.from second.transition.from (first.left.from ∙ ap Some from) second.left.from in
      let to_is : x.to ≡ z.to = one.once x.to z.to second.transition.to (first.left.to ∙ ap Some to) second.left.to in
      let care : x.care ≡ z.care = first.left.care ∙ sym first.right.care ∙ second.right.care ∙ sym second.left.care in
      let want : x.want ≡ z.want = first.left.want ∙ sym first.right.want ∙ second.right.want ∙ sym second.left.want in
      let rejecting : x.rejecting ≡ z.rejecting =
      first.left.rejecting ∙ sym first.right.rejecting ∙ second.right.rejecting ∙ sym second.left.rejecting in
      λ i. record { from = from_is i; care = care i; want = want i; to = to_is i; rejecting = rejecting i }

  looped : (here there : List StateTree) (e d : EdgeTree) (t : Transition) →
      ((i j : ℕ) (x : StateTree) → slice_get there i ≡ Some x → slice_get there j ≡ Some x → i ≡ j) → Joins here e t → Joins there d t →
      e.to ≡ e.from → d.to ≡ d.from
  looped here there e d t once left right loop =
      let same : t.to ≡ t.from = one_value (slice_get here e.from) t.to t.from (ap (slice_get here) (sym loop) ∙ left.to) left.from in
      once d.to d.from t.from (right.to ∙ ap Some same) right.from

  as_much : (e d : EdgeTree) → IsMatched states more_states e d →
      kept_count (transitions_along q s e) ≡ kept_count (transitions_along q s d)
  as_much e d matched =
      let t = matched.transition in
      as_many_along q s in_states e d
      (record {
        care = matched.left.care ∙ sym matched.right.care;
        want = matched.left.want ∙ sym matched.right.want;
        rejecting = matched.left.rejecting ∙ sym matched.right.rejecting;
        loops = looped states more_states e d t other.once matched.left matched.right;
      })
      (record {
        care = matched.right.care ∙ sym matched.left.care;
        want = matched.right.want ∙ sym matched.left.want;
        rejecting = matched.right.rejecting ∙ sym matched.left.rejecting;
        loops = looped more_states states d e t one.once matched.right matched.left;
      }) (
        subst (λ n. e.from < n) count (slice_get_within states e.from t.from matched.left.from),
        subst (λ n. e.to < n) count (slice_get_within states e.to t.to matched.left.to),
      ) (
        subst (λ n. d.from < n) more_count (slice_get_within more_states d.from t.from matched.right.from),
        subst (λ n. d.to < n) more_count (slice_get_within more_states d.to t.to matched.right.to),
      )

  match_of : (i : ℕ) (e : EdgeTree) → slice_get edges i ≡ Some e →
      HasMatch (IsMatched states more_states) alone (λ x. kept_count (transitions_along q s x)) (λ x. kept_count (transitions_along q s x))
      as_much more_edges e
  match_of i e at =
      let of = each_at (IsOfChoice (untils_of f) states) edges i e one.of_choices at in
      let t : Transition = record {
        from = of.state;
        care = e.care;
        want = e.want;
        to = state_after (untils_of f) of.state of.choice;
        rejecting = e.rejecting;
      } in
      let joins : Joins states e t = record { from = of.here; care = refl; want = refl; to = of.there; rejecting = refl } in
      let found = (renumbered f states edges more_states more_edges one other).same_edges e t (contains_at edges i e at) joins in
      let place = place_of more_edges found.0 found.1 in
      record { place = place.0; match = found.0; at = place.1; matches = record { transition = t; left = joins; right = found.2 } }

  pub at_most : sum_by (λ e. kept_count (transitions_along q s e)) edges ≤ sum_by (λ e. kept_count (transitions_along q s e)) more_edges
  at_most =
      sum_matched (IsMatched states more_states) alone (λ e. kept_count (transitions_along q s e))
      (λ e. kept_count (transitions_along q s e)) as_much edges more_edges one.edges_once match_of

-- two automata of a formula
module _ (q : QuestionTree) (f : LtlTree) (states : List StateTree) (edges : List EdgeTree) (more_states : List StateTree)
    (more_edges : List EdgeTree) (one : IsAutomaton f states edges) (other : IsAutomaton f more_states more_edges)
    (count : length states ≡ q.automaton_states) (more_count : length more_states ≡ q.automaton_states) where
  abbrev with_edges : List EdgeTree → QuestionTree
  with_edges es = record q { edges = es }

  as_many_in : (s : ℕ) → s < q.states →
      kept_count (transitions_in (with_edges edges) s) ≡ kept_count (transitions_in (with_edges more_edges) s)
  as_many_in s in_states =
      let up = at_most q s in_states f states edges more_states more_edges one other count more_count in
      let down = at_most q s in_states f more_states more_edges states edges other one more_count count in
      let same : sum_by (λ e. kept_count (transitions_along q s e)) edges ≡ sum_by (λ e. kept_count (transitions_along q s e)) more_edges =
      omega (arith, up, down) in
      count_of_all (transitions_along q s) edges ∙ same ∙ sym (count_of_all (transitions_along q s) more_edges)

  as_many_transitions : kept_count (transition_clauses (with_edges edges)) ≡ kept_count (transition_clauses (with_edges more_edges))
  as_many_transitions =
      same_counts (transitions_in (with_edges edges)) (transitions_in (with_edges more_edges)) (between 0 q.states)
      (λ k s at. as_many_in s (below_count q.states k s at))

  behind : (first x y : List (List Lit)) → kept_count x ≡ kept_count y → kept_count (first ++ x) ≡ kept_count (first ++ y)
  behind first x y same = count_joined first x ∙ ap (λ n. kept_count first + n) same ∙ sym (count_joined first y)

  behind_four : (a b c d x y : List (List Lit)) → kept_count x ≡ kept_count y →
      kept_count (a ++ (b ++ (c ++ (d ++ x)))) ≡ kept_count (a ++ (b ++ (c ++ (d ++ y))))
  behind_four a b c d x y same =
      behind a (b ++ (c ++ (d ++ x))) (b ++ (c ++ (d ++ y)))
      (behind b (c ++ (d ++ x)) (c ++ (d ++ y)) (behind c (d ++ x) (d ++ y) (behind d x y same)))

  pub as_many_clauses : length (encoding (with_edges edges)) ≡ length (encoding (with_edges more_edges))
  as_many_clauses =
      behind_four (choice_clauses q) (next_clauses q) (start_clauses q) (number_clauses q) (transition_clauses (with_edges edges))
      (transition_clauses (with_edges more_edges)) as_many_transitions

-- the questions that are asked for a controller
pub same_size : (spec : SpecTree) (windows : List WindowTree) (states : ℕ) (bound : Bound) (p q : QuestionTree) →
    IsAsked Controller spec windows states bound p → IsAsked Controller spec windows states bound q →
    length (encoding p) ≡ length (encoding q)
same_size spec windows states bound p q first second =
    let form = form_for Controller spec windows in
    let count : q.automaton_states ≡ p.automaton_states =
    same_automaton_states Controller spec windows states bound q p second first in
    let same : (record p { edges = q.edges }) ≡ q = λ i. record {
      space = (first.space ∙ sym second.space) i;
      automaton_states = sym count i;
      edges = q.edges;
      states = (first.has_states ∙ sym second.has_states) i;
      bound = same_bound Controller spec windows states bound p q first second i;
    } in
    as_many_clauses p form first.automaton_states p.edges second.automaton_states q.edges first.automaton second.automaton
    first.counted (second.counted ∙ count)
    ∙ ap (λ r. length (encoding r)) same
