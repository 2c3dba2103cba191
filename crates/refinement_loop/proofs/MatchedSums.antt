-- A sum over a list is at most one over a list in which each member has a match of its own.
use Rattle.std.proofs.Common.{◌≡◌, ◌∙◌, ℕ, suc, ◌+◌, ◌-◌, ◌≤◌, inl, inr, List, [], ◌∷◌, ◌++◌, length, take, drop, Some, slice_get}
use Rattle.std.proofs.Common.{refl, sym, ap, subst, arith}
use Rattle.std.specs.List.{sum_by}
use Rattle.std.proofs.lemmas.Bool.{cases_order}
use Rattle.std.proofs.lemmas.List.{length-take-le}
use Rattle.std.proofs.lemmas.List.Sums.{sum_by-append, sum_by-cons}
use Rattle.std.proofs.lemmas.Option.{slice_get_within}
use Rattle.base_library.proofs.Options.{one_value}
use Rattle.base_library.proofs.Places.{split_at, slice_get_taken, slice_get_grown, slice_get-drop, slice_get-append}
use Rattle.base_library.specs.Once.{StandOnce}

module _ {X Y : Type 0} (R : X → Y → Type 0) (alone : (x z : X) (y : Y) → R x y → R z y → x ≡ z) (f : X → ℕ) (g : Y → ℕ)
    (as_much : (x : X) (y : Y) → R x y → f x ≡ g y) where
  -- a member of a list that matches
  pub record HasMatch (ys : List Y) (x : X) : Type 0 where
    pub place : ℕ
    pub match : Y
    pub at : slice_get ys place ≡ Some match
    pub matches : R x match

  -- it still stands there where another member is taken out
  left_out : (ys : List Y) (k : ℕ) (x : X) (has : HasMatch ys x) → (has.place ≡ k → ⊥) → HasMatch (take k ys ++ drop (suc k) ys) x
  left_out ys k x has other = elim (cases_order has.place k) [
    | inl same ↦ absurd (other same)
    | inr apart ↦ elim apart [
      | inl before ↦ record {
        place = has.place;
        match = has.match;
        at = slice_get_grown (take k ys) (drop (suc k) ys) has.place has.match
            (slice_get_taken k ys has.place has.match before has.at);
        matches = has.matches;
      }
      | inr behind ↦
          (let within = slice_get_within ys has.place has.match has.at in
          let count : length (take k ys) ≡ k = length-take-le k ys (omega (arith, behind, within)) in
          let place : suc k + (has.place - suc k) ≡ has.place = omega (arith, behind) in
          let moved : has.place - 1 ≡ length (take k ys) + (has.place - suc k) = omega (arith, count, behind) in
          record {
            place = has.place - 1;
            match = has.match;
            at = slice_get-append (take k ys) (drop (suc k) ys) (has.place - suc k) (has.place - 1) moved
                ∙ slice_get-drop (suc k) ys (has.place - suc k) ∙ ap (slice_get ys) place ∙ has.at;
            matches = has.matches;
          })
    ]
  ]

  pub sum_matched : (xs : List X) (ys : List Y) → StandOnce xs → ((i : ℕ) (x : X) → slice_get xs i ≡ Some x → HasMatch ys x) →
      sum_by f xs ≤ sum_by g ys
  sum_matched [] ys once each = omega arith
  sum_matched (x ∷ xs) ys once each =
      let first = each 0 x refl in
      let rest = sum_matched xs (take first.place ys ++ drop (suc first.place) ys)
      (λ i j z at_i at_j. let same = once (suc i) (suc j) z at_i at_j in omega (arith, same)) (λ i z at.
      left_out ys first.place z (each (suc i) z at) (λ same.
      let has = each (suc i) z at in
      let match : has.match ≡ first.match =
      one_value (slice_get ys first.place) has.match first.match (ap (slice_get ys) (sym same) ∙ has.at) first.at in
      let equal : z ≡ x = alone z x first.match (subst (R z) match has.matches) first.matches in
      let places = once (suc i) 0 x (at ∙ ap Some equal) refl in
      omega (arith, places))) in
      let whole : sum_by g ys ≡ sum_by g (take first.place ys) + sum_by g (first.match ∷ drop (suc first.place) ys) =
      ap (sum_by g) (split_at ys first.place first.match first.at) ∙ sum_by-append g (take first.place ys)
      (first.match ∷ drop (suc first.place) ys) in
      omega (
        arith,
        rest,
        whole,
        sum_by-cons g first.match (drop (suc first.place) ys),
        sum_by-append g (take first.place ys) (drop (suc first.place) ys),
        sum_by-cons f x xs,
        as_much x first.match first.matches,
      )
