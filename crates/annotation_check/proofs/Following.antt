-- Following steps: what a step asks for is needed by every numbering, and what was met stays so.
use Rattle.std.proofs.Common.{◌≡◌, ◌∙◌, ℕ, ◌≤◌, List, [], ◌∷◌, ◌++◌, Option, Some, refl, sym, subst, arith, inl, inr}
use Rattle.std.proofs.lemmas.List.Elements.{Contains-append_left, Contains-push, Contains-push_cases}
use Rattle.annotation_check.specs.declared.growing.Rise.{Rise}
use Rattle.annotation_check.specs.declared.stepping.Step.{Step}
use Rattle.annotation_check.specs.Annotations.{IsAtLeast, after_edge, IsAnnotation}
use Rattle.annotation_check.specs.internal.Pairs.{PairsTree}
use Rattle.annotation_check.specs.internal.Growth.{number_in, IsNeeded, HasNone, IsOfPair, IsRightful, IsGrown, GrowsTo, IsStepFrom, IsMet, IsDone}
use Rattle.annotation_check.specs.internal.Growth.{IsOnTheWay}
use Rattle.annotation_check.specs.internal.Steps.{step_between, after_step}
use Rattle.annotation_check.proofs.PairNumbers.{number_there, more_than_at_least}

module _ (p : PairsTree) where
  module _ (r : Rise) (t : Step) (from : IsStepFrom p r.machine_state r.automaton_state t) where
    -- what a step asks for is needed
    pub next_needed : IsNeeded p r.machine_state r.automaton_state r.number → IsNeeded p t.machine_state t.automaton_state (after_step r.number t)
    next_needed needed =
        subst (λ (x : Step). IsNeeded p x.machine_state x.automaton_state (after_step r.number x)) (sym from.is) (λ other numbering.
        let here = number_there _ _ (needed other numbering) in
        more_than_at_least (after_edge r.number from.edge) (after_edge here.0 from.edge) (other from.move.next from.edge.to) (omega (arith, here.2))
        (numbering.goes_on r.machine_state r.automaton_state here.0 here.1 from.move from.moved from.edge from.leaves from.matches))

    -- and if that passes the bound, then no numbering is within the bound
    pub none_within : IsNeeded p r.machine_state r.automaton_state r.number → (after_step r.number t ≤ p.bound → ⊥) → HasNone p
    none_within needed past other annotation =
        let next = number_there _ _ (next_needed needed other annotation.numbering) in
        let most = annotation.within t.machine_state t.automaton_state next.0 next.1 in
        past (omega (arith, next.2, most))

  module _ (numbers : List (Option ℕ)) (risen : List Rise) (next_numbers : List (Option ℕ)) (next_risen : List Rise)
      (grows : GrowsTo p numbers risen next_numbers next_risen) where
    -- what was at least so large stays so
    pub at_least_later : (n s q : ℕ) → IsAtLeast n (number_in p numbers s q) → IsAtLeast n (number_in p next_numbers s q)
    at_least_later n s q at =
        let here = number_there n (number_in p numbers s q) at in
        more_than_at_least n here.0 (number_in p next_numbers s q) here.2 (grows.kept s q here.0 here.1)

    pub met_later : (n : ℕ) (t : Step) → IsMet p numbers n t → IsMet p next_numbers n t
    met_later n t met = at_least_later (after_step n t) t.machine_state t.automaton_state met

    pub done_later : (s q n : ℕ) → IsDone p numbers s q n → IsDone p next_numbers s q n
    done_later s q n done t from = met_later n t (done t from)

    pub grows_on : (last_numbers : List (Option ℕ)) (last_risen : List Rise) → GrowsTo p next_numbers next_risen last_numbers last_risen →
        GrowsTo p numbers risen last_numbers last_risen
    grows_on last_numbers last_risen more = record {
      grown = more.grown;
      kept = λ s q n is. (let here = number_there n (number_in p next_numbers s q) (grows.kept s q n is) in
          more_than_at_least n here.0 (number_in p last_numbers s q) here.2 (more.kept s q here.0 here.1));
      rose = λ s q n is. elim (more.rose s q n is) [
        | inl middle ↦ elim (grows.rose s q n middle) [
          | inl first ↦ inl first
          | inr stands ↦ inr (more.has _ stands)
        ]
        | inr stands ↦ inr stands
      ];
      has = λ r stands. more.has r (grows.has r stands);
      less = (let first = grows.less in let second = more.less in omega (arith, first, second));
    }

  module _ (numbers : List (Option ℕ)) (risen : List Rise) (r : Rise) (way : IsOnTheWay p numbers (risen ++ r ∷ [])) where
    -- when the last rise is taken off
    pub grown_before : IsGrown p numbers risen
    grown_before = record {
      size = way.grown.size;
      within = way.grown.within;
      least = way.grown.least;
      of_pairs = λ x stands. way.grown.of_pairs x (Contains-append_left risen (r ∷ []) x stands);
    }

    pub last_of_pair : IsOfPair p r
    last_of_pair = way.grown.of_pairs r (Contains-push risen r)

    pub last_rightful : number_in p numbers r.machine_state r.automaton_state ≡ Some r.number → IsRightful p r
    last_rightful is = record {
      within = way.grown.within r.machine_state r.automaton_state r.number is;
      needed = way.grown.least r.machine_state r.automaton_state r.number is;
    }

    -- a pair that rose again is not the last rise
    pub passed_over : (number_in p numbers r.machine_state r.automaton_state ≡ Some r.number → ⊥) → IsOnTheWay p numbers risen
    passed_over again = record {
      grown = grown_before;
      start = way.start;
      others = λ s q n is. elim (way.others s q n is) [
        | inl done ↦ inl done
        | inr stands ↦ elim (Contains-push_cases risen r (record { machine_state = s; automaton_state = q; number = n }) stands) [
          | inl before ↦ inr before
          | inr last ↦ absurd (again ((λ i. number_in p numbers (last i).machine_state (last i).automaton_state) ∙ is
              ∙ (λ i. Some (sym last i).number)))
        ]
      ];
    }

    -- once its edges were followed, it is done
    pub looked_at : (next_numbers : List (Option ℕ)) (next_risen : List Rise) → GrowsTo p numbers risen next_numbers next_risen →
        IsDone p next_numbers r.machine_state r.automaton_state r.number → IsOnTheWay p next_numbers next_risen
    looked_at next_numbers next_risen grows done = record {
      grown = grows.grown;
      start = at_least_later numbers risen next_numbers next_risen grows 0 0 0 way.start;
      others = λ s q n is. elim (grows.rose s q n is) [
        | inl same ↦ elim (way.others s q n same) [
          | inl before ↦ inl (done_later numbers risen next_numbers next_risen grows s q n before)
          | inr stands ↦ elim (Contains-push_cases risen r (record { machine_state = s; automaton_state = q; number = n }) stands) [
            | inl waits ↦ inr (grows.has _ waits)
            | inr last ↦ inl (subst (λ (x : Rise). IsDone p next_numbers x.machine_state x.automaton_state x.number) last done)
          ]
        ]
        | inr stands ↦ inr stands
      ];
    }

  -- when nothing is to be looked at, the numbers are the least annotation
  module _ (numbers : List (Option ℕ)) (way : IsOnTheWay p numbers []) where
    pub annotated : IsAnnotation p.edges p.moves p.bound (number_in p numbers)
    annotated = record {
      numbering = record {
        start = way.start;
        goes_on = λ s q n is m moved e leaves matches. elim (way.others s q n is) [
          | inl done ↦ done (step_between m e)
              (record { move = m; edge = e; moved = moved; leaves = leaves; matches = matches; is = refl })
          | inr stands ↦ absurd (omega (arith, stands.1))
        ];
      };
      within = way.grown.within;
    }
