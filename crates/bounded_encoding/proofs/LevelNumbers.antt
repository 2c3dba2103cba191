-- Numbers of pairs by levels: a pair's number is one less than how many of its levels are set without a gap.
use Rattle.std.proofs.Common.{◌≡◌, ◌∙◌, ℕ, zero, suc, ◌+◌, ◌-◌, ◌*◌, ◌/◌, ◌%◌, ◌<◌, ◌≤◌, inl, inr, Bool, true, List, map}
use Rattle.std.proofs.Common.{Option, None, Some, option_and_then, sym, ap, subst, arith}
use Rattle.std.specs.List.{prefix_len, range_with_len}
use Rattle.std.proofs.lemmas.Bool.{cases_eq}
use Rattle.std.proofs.lemmas.Option.{none-some, same_Some}
use Rattle.base_library.proofs.Places.{slice_get_one}
use Rattle.machines.specs.MachineTree.{cell_at}
use Rattle.annotation_check.specs.Annotations.{IsAtLeast, number_of_pair}
use Rattle.bounded_encoding.specs.Reading.{one_less}
use Rattle.bounded_encoding.proofs.Ranges.{front_within, front_passes, front_reaches}
use Rattle.bounded_encoding.proofs.Tables.{cell_within, table_length, table_at, table_cell}

one_less_is : (k n : ℕ) → one_less k ≡ Some n → k ≡ suc n
one_less_is zero n is = absurd (none-some n is)
one_less_is (suc k) n is = ap suc (same_Some k n is)

one_less_reaches : (k m : ℕ) → m < k → IsAtLeast m (one_less k)
one_less_reaches zero m below = absurd (omega arith)
one_less_reaches (suc k) m below = omega arith

inner_value : (o : Option (Option ℕ)) (n : ℕ) → option_and_then (λ m. m) o ≡ Some n → o ≡ Some (Some n)
inner_value None n is = absurd (none-some n is)
inner_value (Some m) n is = ap Some is

module _ (set : ℕ → ℕ → ℕ → Bool) (states automaton_states bound : ℕ) where
  abbrev levels : ℕ → ℕ → ℕ
  levels s p = prefix_len (set s p) (range_with_len 0 (bound + 1))

  abbrev pub pair_number : ℕ → ℕ → Option ℕ
  pair_number s p = one_less (levels s p)

  abbrev pub pair_numbers : List (Option ℕ)
  pair_numbers = map (λ k. pair_number (k / automaton_states) (k % automaton_states)) (range_with_len 0 (states * automaton_states))

  abbrev pub number : ℕ → ℕ → Option ℕ
  number = number_of_pair automaton_states pair_numbers

  pub number_is : (s p n : ℕ) → number s p ≡ Some n → (s < states) × (p < automaton_states) × (n ≤ bound) × (set s p n ≡ true)
  number_is s p n is =
      let there = inner_value (cell_at automaton_states pair_numbers s p) n is in
      let cell = cell_within states automaton_states pair_numbers s p (Some n) (table_length pair_number states automaton_states) there in
      let read = slice_get_one pair_numbers (s * automaton_states + p) (pair_number s p) (Some n)
      (table_at pair_number states automaton_states s p cell.0 cell.1) cell.2 in
      let count = one_less_is (levels s p) n read in
      let most = front_within (set s p) 0 (bound + 1) in
      let zero_more : 0 + n ≡ n = omega arith in (
        cell.0,
        cell.1,
        omega (arith, count, most),
        ap (set s p) (sym zero_more) ∙ front_passes (set s p) 0 (bound + 1) n (omega (arith, count)),
      )

  -- each set level of a pair has the one below it set
  abbrev pub IsFalling : Type 0
  IsFalling = (s p i : ℕ) → s < states → p < automaton_states → 1 ≤ i → i ≤ bound → set s p i ≡ true → set s p (i - 1) ≡ true

  module _ (falls : IsFalling) where
    all_lower : (s p m : ℕ) → s < states → p < automaton_states → m ≤ bound → set s p m ≡ true → (i : ℕ) → i ≤ m → set s p i ≡ true
    all_lower s p zero in_states in_automaton within is i least =
        ap (set s p) (let same : i ≡ zero = omega arith in same) ∙ is
    all_lower s p (suc m) in_states in_automaton within is i least = elim (cases_eq i (suc m)) [
      | inl same ↦ ap (set s p) same ∙ is
      | inr other ↦ all_lower s p m in_states in_automaton (omega arith)
          (ap (set s p) (let same : m ≡ suc m - 1 = omega arith in same)
          ∙ falls s p (suc m) in_states in_automaton (omega arith) within is) i (omega (arith, other, least))
    ]

    pub number_reaches : (s p m : ℕ) → s < states → p < automaton_states → m ≤ bound → set s p m ≡ true → IsAtLeast m (number s p)
    number_reaches s p m in_states in_automaton within is =
        subst (IsAtLeast m) (sym (ap (option_and_then (λ n. n))
        (table_cell pair_number states automaton_states s p in_states in_automaton)))
        (one_less_reaches (levels s p) m
        (front_reaches (set s p) 0 (bound + 1) m (omega arith) (λ i least.
        let zero_more : 0 + i ≡ i = omega arith in
        ap (set s p) zero_more ∙ all_lower s p m in_states in_automaton within is i least)))
