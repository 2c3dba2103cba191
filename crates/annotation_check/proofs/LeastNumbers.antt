-- From no numbers to the least ones.
use Rattle.std.proofs.Common.{◌≡◌, ◌∙◌, ℕ, zero, suc, ◌+◌, ◌*◌, Bool, true, false, cond, ltb, List, [], ◌∷◌, length, get_or, Option, None}
use Rattle.std.proofs.Common.{option_and_then, slice_get, replicate, refl, sym, subst, arith, inl, inr}
use Rattle.std.proofs.lemmas.List.{length-replicate}
use Rattle.std.proofs.lemmas.Option.{none-some}
use Rattle.annotation_check.specs.declared.growing.Rise.{Rise}
use Rattle.annotation_check.specs.Annotations.{number_of_pair}
use Rattle.annotation_check.specs.internal.Pairs.{PairsTree, ArePairs}
use Rattle.annotation_check.specs.internal.Growth.{pair_place, numbers_after, risen_after, number_in, IsOfPair, IsRightful, IsGrown}
use Rattle.annotation_check.specs.internal.Growth.{IsOnTheWay}
use Rattle.annotation_check.proofs.PairNumbers.{number_at_place}
use Rattle.annotation_check.proofs.Raising.{place_within, raised}

-- where no place has a number, no pair has one
no_number_at : (count k : ℕ) → option_and_then (λ (n : Option ℕ). n) (slice_get (replicate count None) k) ≡ None
no_number_at zero k = refl
no_number_at (suc count) zero = refl
no_number_at (suc count) (suc k) = no_number_at count k

no_number : (states count s q : ℕ) → number_of_pair states (replicate count None) s q ≡ None
no_number states count s q = by (ltb q states)
  where
    by : (b : Bool) → option_and_then (λ (n : Option ℕ). n) (cond b (slice_get (replicate count None) (s * states + q)) None) ≡ None
    by true = no_number_at count (s * states + q)
    by false = refl

abbrev pub first_rise : Rise
first_rise = record { machine_state = 0; automaton_state = 0; number = 0 }

module _ (p : PairsTree) (pairs : ArePairs p) (count : ℕ) (all : count ≡ p.machine_states * p.automaton_states) where
  fresh : IsGrown p (replicate count None) []
  fresh = record {
    size = length-replicate count None ∙ all;
    within = λ s q n is. absurd (none-some n (sym (no_number p.automaton_states count s q) ∙ is));
    least = λ s q n is. absurd (none-some n (sym (no_number p.automaton_states count s q) ∙ is));
    of_pairs = λ r stands. absurd (omega (arith, stands.1));
  }

  pub first_of_pair : IsOfPair p first_rise
  first_of_pair = record { machine_state = pairs.machine_starts; automaton_state = pairs.automaton_starts }

  first_rightful : IsRightful p first_rise
  first_rightful = record { within = omega arith; needed = λ other numbering. numbering.start }

  -- once the pair of both starts is numbered
  pub started : (numbers : List (Option ℕ)) (risen : List Rise) (next_numbers : List (Option ℕ)) (next_risen : List Rise) →
      numbers ≡ replicate count None → risen ≡ [] → next_numbers ≡ numbers_after p.automaton_states numbers first_rise →
      next_risen ≡ risen_after p.automaton_states numbers risen first_rise → IsOnTheWay p next_numbers next_risen
  started numbers risen next_numbers next_risen none nothing numbers_are risen_are =
      let made = raised p (replicate count None) [] first_rise fresh first_rightful first_of_pair in
      let way : IsOnTheWay p (numbers_after p.automaton_states (replicate count None) first_rise)
      (risen_after p.automaton_states (replicate count None) [] first_rise) = record {
        grown = made.0.grown;
        start = made.1;
        others = λ s q n is. elim (made.0.rose s q n is) [
          | inl before ↦ absurd (none-some n (sym (no_number p.automaton_states count s q) ∙ before))
          | inr stands ↦ inr stands
        ];
      } in
      let same_numbers : numbers_after p.automaton_states (replicate count None) first_rise ≡ next_numbers =
      (λ i. numbers_after p.automaton_states (sym none i) first_rise) ∙ sym numbers_are in
      let same_risen : risen_after p.automaton_states (replicate count None) [] first_rise ≡ next_risen =
      (λ i. risen_after p.automaton_states (sym none i) (sym nothing i) first_rise) ∙ sym risen_are in
      subst (λ rs. IsOnTheWay p next_numbers rs) same_risen
      (subst (λ ns. IsOnTheWay p ns (risen_after p.automaton_states (replicate count None) [] first_rise)) same_numbers way)

-- the number at a pair's place is that of the pair
pub number_of_rise : (p : PairsTree) (numbers : List (Option ℕ)) (r : Rise) → length numbers ≡ p.machine_states * p.automaton_states →
    IsOfPair p r → number_in p numbers r.machine_state r.automaton_state ≡ get_or numbers (pair_place p.automaton_states r) None
number_of_rise p numbers r size of_pair =
    number_at_place p.automaton_states numbers r.machine_state r.automaton_state of_pair.automaton_state
    (place_within p numbers r size of_pair)

-- a list of no members
pub nothing_left : {X : Type 0} (xs : List X) → length xs ≡ 0 → xs ≡ []
nothing_left [] none = refl
nothing_left (x ∷ xs) none = absurd (omega (arith, none))
