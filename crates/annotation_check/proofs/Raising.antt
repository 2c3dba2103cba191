-- Raising the number of a pair keeps what holds of numbers, and leaves less to do.
use Rattle.std.proofs.Common.{◌≡◌, ◌∙◌, ℕ, ◌*◌, ◌<◌, ◌≤◌, Bool, true, false, cond, List, [], ◌∷◌, ◌++◌, length, set, get_or, Option}
use Rattle.std.proofs.Common.{None, Some, Contains, length-append, refl, sym, subst, arith, inl, inr, ◌⊎◌}
use Rattle.std.proofs.Math.ListN.{length-set}
use Rattle.std.proofs.lemmas.List.Elements.{Contains-append_left, Contains-push, Contains-push_cases}
use Rattle.std.proofs.lemmas.List.Sums.{sum_by-set}
use Rattle.std.proofs.lemmas.Nat.{mul-add-lt}
use Rattle.base_library.proofs.Options.{one_value}
use Rattle.annotation_check.specs.declared.growing.Rise.{Rise}
use Rattle.annotation_check.specs.Annotations.{IsAtLeast}
use Rattle.annotation_check.specs.internal.Higher.{is_higher}
use Rattle.annotation_check.specs.internal.Pairs.{PairsTree}
use Rattle.annotation_check.specs.internal.Growth.{pair_place, raises, numbers_after, risen_after, rise_left, work_left, number_in}
use Rattle.annotation_check.specs.internal.Growth.{IsOfPair, IsRightful, IsGrown, GrowsTo}
use Rattle.annotation_check.proofs.PairNumbers.{at_least, not_higher, higher_than, number_at_place, set_there, number_set}

-- a pair of states has a place
pub place_within : {X : Type 0} (p : PairsTree) (items : List X) (r : Rise) → length items ≡ p.machine_states * p.automaton_states →
    IsOfPair p r → pair_place p.automaton_states r < length items
place_within p items r size of_pair =
    let below = mul-add-lt r.machine_state p.automaton_states r.automaton_state p.machine_states of_pair.machine_state
    of_pair.automaton_state in
    omega (arith, size, below)

-- what is at least so large, in equal words
at_least_moved : {n m : ℕ} {a b : Option ℕ} → a ≡ b → n ≡ m → IsAtLeast n a → IsAtLeast m b
at_least_moved {n = n} {m = m} {a = a} {b = b} same e h = subst (λ k. IsAtLeast k b) e (subst (IsAtLeast n) same h)

-- what a rise leaves of what a number may still rise
left_after : (bound n : ℕ) (o : Option ℕ) → n ≤ bound → is_higher o n ≡ true → rise_left bound (Some n) < rise_left bound o
left_after bound n None within higher = omega arith
left_after bound n (Some m) within higher = let below = higher_than (Some m) n m higher refl in omega (arith, below)

module _ (p : PairsTree) where
  -- nothing that happens
  pub grows_to_itself : (numbers : List (Option ℕ)) (risen : List Rise) → IsGrown p numbers risen → GrowsTo p numbers risen numbers risen
  grows_to_itself numbers risen grown = record {
    grown = grown;
    kept = λ s q n is. at_least n n (number_in p numbers s q) is (omega arith);
    rose = λ s q n is. inl is;
    has = λ r stands. stands;
    less = omega arith;
  }

  module _ (numbers : List (Option ℕ)) (risen : List Rise) (r : Rise) (grown : IsGrown p numbers risen) (rightful : IsRightful p r)
      (of_pair : IsOfPair p r) where
    within : pair_place p.automaton_states r < length numbers
    within = place_within p numbers r grown.size of_pair

    before : number_in p numbers r.machine_state r.automaton_state ≡ get_or numbers (pair_place p.automaton_states r) None
    before = number_at_place p.automaton_states numbers r.machine_state r.automaton_state of_pair.automaton_state within

    -- the number of each pair is the raised one, or what it was
    abbrev after : List (Option ℕ)
    after = set numbers (pair_place p.automaton_states r) (Some r.number)

    at_each : (s q : ℕ) → ((s ≡ r.machine_state) × (q ≡ r.automaton_state) × (number_in p after s q ≡ Some r.number))
        ⊎ (number_in p after s q ≡ number_in p numbers s q)
    at_each s q =
        number_set p.automaton_states numbers r.machine_state r.automaton_state of_pair.automaton_state within (Some r.number) s q

    module _ (higher : is_higher (get_or numbers (pair_place p.automaton_states r) None) r.number ≡ true) where
      grown_after : IsGrown p after (risen ++ r ∷ [])
      grown_after = record {
        size = length-set numbers (pair_place p.automaton_states r) (Some r.number) ∙ grown.size;
        within = λ s q n is. elim (at_each s q) [
          | inl (t, u, v) ↦ (let e : r.number ≡ n = one_value _ r.number n v is in let w = rightful.within in omega (arith, e, w))
          | inr same ↦ grown.within s q n (sym same ∙ is)
        ];
        least = λ s q n is. elim (at_each s q) [
          | inl (t, u, v) ↦ (let e : r.number ≡ n = one_value _ r.number n v is in
              λ other numbering. at_least_moved (λ i. other (sym t i) (sym u i)) e (rightful.needed other numbering))
          | inr same ↦ grown.least s q n (sym same ∙ is)
        ];
        of_pairs = λ x stands. elim (Contains-push_cases risen r x stands) [
          | inl old ↦ grown.of_pairs x old
          | inr is ↦ subst (IsOfPair p) is of_pair
        ];
      }

      kept_after : (s q n : ℕ) → number_in p numbers s q ≡ Some n → IsAtLeast n (number_in p after s q)
      kept_after s q n is =
          elim (at_each s q) [
            | inl (t, u, v) ↦
                let here : get_or numbers (pair_place p.automaton_states r) None ≡ Some n =
                sym before ∙ (λ i. number_in p numbers (sym t i) (sym u i)) ∙ is in
                at_least n r.number (number_in p after s q) v (let below = higher_than _ r.number n higher here in omega (arith, below))
            | inr same ↦ at_least n n (number_in p after s q) (same ∙ is) (omega arith)
          ]

      rose_after : (s q n : ℕ) → number_in p after s q ≡ Some n →
          (number_in p numbers s q ≡ Some n) ⊎ Contains (risen ++ r ∷ []) (record { machine_state = s; automaton_state = q; number = n })
      rose_after s q n is =
          elim (at_each s q) [
            | inl (t, u, v) ↦
                let e : r.number ≡ n = one_value _ r.number n v is in
                let same : r ≡ record { machine_state = s; automaton_state = q; number = n } =
                λ i. record { machine_state = sym t i; automaton_state = sym u i; number = e i } in
                inr (subst (Contains (risen ++ r ∷ [])) same (Contains-push risen r))
            | inr same ↦ inl (sym same ∙ is)
          ]

      less_after : work_left p.bound after (risen ++ r ∷ []) ≤ work_left p.bound numbers risen
      less_after =
          let sums = sum_by-set (rise_left p.bound) numbers (pair_place p.automaton_states r) (Some r.number) None within in
          let fewer = left_after p.bound r.number (get_or numbers (pair_place p.automaton_states r) None) rightful.within higher in
          let one_more = length-append risen (r ∷ []) in
          omega (arith, sums, fewer, one_more)

      grows_after : GrowsTo p numbers risen after (risen ++ r ∷ [])
      grows_after = record {
        grown = grown_after;
        kept = kept_after;
        rose = rose_after;
        has = λ x stands. Contains-append_left risen (r ∷ []) x stands;
        less = less_after;
      }

      there_after : IsAtLeast r.number (number_in p after r.machine_state r.automaton_state)
      there_after =
          at_least r.number r.number (number_in p after r.machine_state r.automaton_state)
          (set_there p.automaton_states numbers r.machine_state r.automaton_state of_pair.automaton_state within (Some r.number))
          (omega arith)

    -- raising keeps what holds, and the pair has at least the number
    pub raised : GrowsTo p numbers risen (numbers_after p.automaton_states numbers r) (risen_after p.automaton_states numbers risen r)
        × IsAtLeast r.number (number_in p (numbers_after p.automaton_states numbers r) r.machine_state r.automaton_state)
    raised = by (raises p.automaton_states numbers r) refl
      where
        by : (b : Bool) → raises p.automaton_states numbers r ≡ b →
            GrowsTo p numbers risen (cond b (set numbers (pair_place p.automaton_states r) (Some r.number)) numbers)
            (cond b (risen ++ r ∷ []) risen)
            × IsAtLeast r.number (number_in p (cond b (set numbers (pair_place p.automaton_states r) (Some r.number)) numbers)
            r.machine_state r.automaton_state)
        by true e = (grows_after e, there_after e)
        by false e = (
          grows_to_itself numbers risen grown,
          subst (IsAtLeast r.number) (sym before) (not_higher (get_or numbers (pair_place p.automaton_states r) None) r.number e),
        )
