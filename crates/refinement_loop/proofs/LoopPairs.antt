-- Whether the clause of a transition has a literal and its negation: that depends on its edge's cube and mark, and on whether the edge
-- is a loop.
use Rattle.std.proofs.Common.{◌≡◌, ◌∙◌, ℕ, ◌+◌, ◌<◌, ◌≤◌, inl, inr, Bool, true, false, not, cond, List, [], ◌∷◌, filter, map, length}
use Rattle.std.proofs.Common.{refl, sym, ap, arith, nat_le}
use Rattle.std.proofs.lemmas.Bool.{or_cases, or_left, or_right, leb-true, false≢true, true≢false}
use Rattle.base_library.proofs.Passes.{list_any-map, list_any_place}
use Rattle.ltl_formula.specs.Cubes.{has_bit}
use Rattle.cobuchi_automata.specs.Automata.{EdgeTree}
use Rattle.clause_core.specs.Literals.{Lit, negation, same, has}
use Rattle.clause_core.specs.Clauses.{has_pair}
use Rattle.clause_core.proofs.Sets.{same_is, same_from, negation-negation, has-append, pair_from, has_pair_from}
use Rattle.annotation_check.specs.Annotations.{after_edge}
use Rattle.bounded_encoding.specs.Question.{QuestionTree, JoinsStates}
use Rattle.bounded_encoding.specs.ClauseLists.{below}
use Rattle.bounded_encoding.specs.Variables.{chooses, goes_to, is_numbered, valuations_of, choices_in_all, IsInRange, index_of, yes, no}
use Rattle.bounded_encoding.specs.Encoding.{asks_choice, asked_literal, asked_of_choices, numbered_after, transition_clause}
use Rattle.bounded_encoding.proofs.Numbers.{one_index}
use Rattle.bounded_encoding.proofs.Ranges.{filtered_in_range}

-- edges that ask and mark the same, of which one is a loop where the other is
pub record AreAlike (e d : EdgeTree) : Type 0 where
  pub care : e.care ≡ d.care
  pub want : e.want ≡ d.want
  pub rejecting : e.rejecting ≡ d.rejecting
  pub loops : e.to ≡ e.from → d.to ≡ d.from

-- kinds of variables are apart
not_chosen : (s v b t p i : ℕ) → chooses s v b ≡ is_numbered t p i → ⊥
not_chosen s v b t p i e = cc

not_gone : (s v b t w u : ℕ) → chooses s v b ≡ goes_to t w u → ⊥
not_gone s v b t w u e = cc

not_numbered : (s v t u p i : ℕ) → goes_to s v t ≡ is_numbered u p i → ⊥
not_numbered s v t u p i e = cc

one_pair : (s p i t q j : ℕ) → is_numbered s p i ≡ is_numbered t q j → (s ≡ t) × (p ≡ q) × (i ≡ j)
one_pair s p i t q j e = (cc, cc, cc)

module _ (q : QuestionTree) (s v t i : ℕ) (in_states : s < q.states) (in_valuations : v < valuations_of q) (to_states : t < q.states)
    (in_bound : i < q.bound + 1) where
  -- the literals of a clause
  abbrev from_literal : EdgeTree → Lit
  from_literal e = no q (is_numbered s e.from i)

  abbrev next_literal : Lit
  next_literal = no q (goes_to s v t)

  abbrev after_literal : EdgeTree → Lit
  after_literal e = yes q (is_numbered t e.to (after_edge i e))

  abbrev clause : EdgeTree → List Lit
  clause e = transition_clause q s e v t i

  -- where a literal of a clause stands
  pub data Stands (e : EdgeTree) (l : Lit) : Type 0 where
    first : from_literal e ≡ l → Stands e l
    second : next_literal ≡ l → Stands e l
    asked : has (asked_of_choices q e s v) l ≡ true → Stands e l
    last : nat_le (after_edge i e) q.bound ≡ true → after_literal e ≡ l → Stands e l

  stands : (e : EdgeTree) (l : Lit) → has (clause e) l ≡ true → Stands e l
  stands e l has_l = elim (or_cases (same (from_literal e) l) _ has_l) [
    | inl here ↦ first (same_is (from_literal e) l here)
    | inr rest ↦ elim (or_cases (same next_literal l) _ rest) [
      | inl here ↦ second (same_is next_literal l here)
      | inr others ↦
          elim (or_cases (has (asked_of_choices q e s v) l) (has (numbered_after q e t i) l)
          (sym (has-append (asked_of_choices q e s v) (numbered_after q e t i) l) ∙ others)) [
            | inl choice ↦ asked choice
            | inr number ↦ after (nat_le (after_edge i e) q.bound) refl number
          ]
    ]
  ]
    where
      after : (b : Bool) → nat_le (after_edge i e) q.bound ≡ b → has (cond b (after_literal e ∷ []) []) l ≡ true → Stands e l
      after false past none = absurd (false≢true none)
      after true within some = elim (or_cases (same (after_literal e) l) false some) [
        | inl here ↦ last within (same_is (after_literal e) l here)
        | inr never ↦ absurd (false≢true never)
      ]

  -- a literal of what is asked of choices is that of a choice
  choice_of : (e : EdgeTree) (l : Lit) → has (asked_of_choices q e s v) l ≡ true →
      (b : ℕ) × (b < choices_in_all q) × (l.index ≡ index_of q (chooses s v b))
  choice_of e l has_l =
      let found = list_any_place (λ b. same (asked_literal q e s v b) l) (filter (asks_choice q e) (below (choices_in_all q)))
      (sym (list_any-map (asked_literal q e s v) (λ m. same m l) (filter (asks_choice q e) (below (choices_in_all q)))) ∙ has_l) in
      let there = filtered_in_range (asks_choice q e) 0 (choices_in_all q) found.0 found.1 found.2 in
      let below_all : found.1 < choices_in_all q = omega (arith, there.1) in
      (found.1, below_all, ap (λ (m : Lit). m.index) (sym (same_is (asked_literal q e s v found.1) l found.3)))

  apart_from_numbers : (e : EdgeTree) (l : Lit) (u p j : ℕ) → IsInRange q (is_numbered u p j) → has (asked_of_choices q e s v) l ≡ true →
      l.index ≡ index_of q (is_numbered u p j) → ⊥
  apart_from_numbers e l u p j inside has_l index =
      let b = choice_of e l has_l in
      not_chosen s v b.0 u p j
      (one_index q (chooses s v b.0) (is_numbered u p j) (in_states, in_valuations, b.1) inside (sym b.2 ∙ index))

  apart_from_next : (e : EdgeTree) (l : Lit) → has (asked_of_choices q e s v) l ≡ true → l.index ≡ index_of q (goes_to s v t) → ⊥
  apart_from_next e l has_l index =
      let b = choice_of e l has_l in
      not_gone s v b.0 s v t
      (one_index q (chooses s v b.0) (goes_to s v t) (in_states, in_valuations, b.1) (in_states, in_valuations, to_states)
      (sym b.2 ∙ index))

  module _ (e d : EdgeTree) (alike : AreAlike e d) (joins : JoinsStates q.automaton_states e) where
    same_asked : asked_of_choices q e s v ≡ asked_of_choices q d s v
    same_asked = λ k. map
        (λ b. record { index = index_of q (chooses s v b); positive = not (has_bit (length q.space.predicates + b) (alike.want k)) })
        (filter (λ b. has_bit (length q.space.predicates + b) (alike.care k)) (below (choices_in_all q)))

    same_after : after_edge i e ≡ after_edge i d
    same_after = λ k. i + cond (alike.rejecting k) 1 0

    -- literals of the other clause
    has_asked : (l : Lit) → has (asked_of_choices q e s v) l ≡ true → has (clause d) l ≡ true
    has_asked l here =
        or_right (same (from_literal d) l) _ (or_right (same next_literal l) _
        (has-append (asked_of_choices q d s v) (numbered_after q d t i) l
        ∙ or_left (has (asked_of_choices q d s v) l) _ (ap (λ ls. has ls l) (sym same_asked) ∙ here)))

    has_last : nat_le (after_edge i e) q.bound ≡ true → has (clause d) (after_literal d) ≡ true
    has_last within =
        or_right (same (from_literal d) (after_literal d)) _ (or_right (same next_literal (after_literal d)) _
        (has-append (asked_of_choices q d s v) (numbered_after q d t i) (after_literal d)
        ∙ or_right (has (asked_of_choices q d s v) (after_literal d)) _
        (ap (λ b. has (cond b (after_literal d ∷ []) []) (after_literal d))
        (ap (λ n. nat_le n q.bound) (sym same_after) ∙ within)
        ∙ or_left (same (after_literal d) (after_literal d)) false (same_from (after_literal d) (after_literal d) refl))))

    number_inside : nat_le (after_edge i e) q.bound ≡ true → IsInRange q (is_numbered t e.to (after_edge i e))
    number_inside within =
        let most : after_edge i e ≤ q.bound = leb-true (after_edge i e) q.bound within in
        (to_states, joins.1, omega (arith, most))

    from_inside : IsInRange q (is_numbered s e.from i)
    from_inside = (in_states, joins.0, in_bound)

    -- a pair of which the first is wanted true
    turned : (p n : Lit) → p.positive ≡ true → n ≡ negation p → Stands e p → Stands e n → has_pair (clause d) ≡ true
    turned p n positive is (first here) other = absurd (false≢true (ap (λ (l : Lit). l.positive) here ∙ positive))
    turned p n positive is (second here) other = absurd (false≢true (ap (λ (l : Lit). l.positive) here ∙ positive))
    turned p n positive is (asked here) (first there) =
        absurd (apart_from_numbers e p s e.from i from_inside here
        (sym (ap (λ (l : Lit). l.index) is) ∙ sym (ap (λ (l : Lit). l.index) there)))
    turned p n positive is (asked here) (second there) =
        absurd (apart_from_next e p here (sym (ap (λ (l : Lit). l.index) is) ∙ sym (ap (λ (l : Lit). l.index) there)))
    turned p n positive is (asked here) (asked there) =
        has_pair_from (clause d) p (has_asked p here) (ap (has (clause d)) (sym is) ∙ has_asked n there)
    turned p n positive is (asked here) (last within there) =
        absurd (apart_from_numbers e p t e.to (after_edge i e) (number_inside within) here
        (sym (ap (λ (l : Lit). l.index) is) ∙ sym (ap (λ (l : Lit). l.index) there)))
    turned p n positive is (last within here) (first there) =
        let index : index_of q (is_numbered t e.to (after_edge i e)) ≡ index_of q (is_numbered s e.from i) =
        ap (λ (l : Lit). l.index) here ∙ sym (ap (λ (l : Lit). l.index) is) ∙ sym (ap (λ (l : Lit). l.index) there) in
        let both = one_pair t e.to (after_edge i e) s e.from i
        (one_index q (is_numbered t e.to (after_edge i e)) (is_numbered s e.from i) (number_inside within) from_inside index) in
        let back : negation (after_literal d) ≡ from_literal d =
        (λ k. no q (is_numbered (both.0 k) (alike.loops both.1 k) ((sym same_after ∙ both.2) k))) in
        has_pair_from (clause d) (after_literal d) (has_last within)
        (or_left (same (from_literal d) (negation (after_literal d))) _
        (same_from (from_literal d) (negation (after_literal d)) (sym back)))
    turned p n positive is (last within here) (second there) =
        let index : index_of q (goes_to s v t) ≡ index_of q (is_numbered t e.to (after_edge i e)) =
        ap (λ (l : Lit). l.index) there ∙ ap (λ (l : Lit). l.index) is ∙ ap (λ (l : Lit). l.index) (sym here) in
        absurd (not_numbered s v t t e.to (after_edge i e)
        (one_index q (goes_to s v t) (is_numbered t e.to (after_edge i e)) (in_states, in_valuations, to_states) (number_inside within)
        index))
    turned p n positive is (last within here) (asked there) =
        absurd (apart_from_numbers e n t e.to (after_edge i e) (number_inside within) there
        (ap (λ (l : Lit). l.index) is ∙ ap (λ (l : Lit). l.index) (sym here)))
    turned p n positive is (last within here) (last also there) =
        absurd (true≢false (ap (λ (l : Lit). l.positive) there ∙ ap (λ (l : Lit). l.positive) is ∙ ap not positive))

    pub pair_there : has_pair (clause e) ≡ true → has_pair (clause d) ≡ true
    pair_there is = by (pair_from (clause e) is).literal.positive refl
      where
        by : (b : Bool) → (pair_from (clause e) is).literal.positive ≡ b → has_pair (clause d) ≡ true
        by true positive =
            let pair = pair_from (clause e) is in
            turned pair.literal (negation pair.literal) positive refl (stands e pair.literal pair.one)
            (stands e (negation pair.literal) pair.other)
        by false negative =
            let pair = pair_from (clause e) is in
            turned (negation pair.literal) pair.literal (ap not negative) (sym (negation-negation pair.literal))
            (stands e (negation pair.literal) pair.other) (stands e pair.literal pair.one)
