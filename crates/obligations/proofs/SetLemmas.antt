-- A member is put where the lower ones end, and sets of places are sets of what stands there.
use Rattle.std.proofs.Common.{◌≡◌, ◌∙◌, ℕ, ◌<◌, true, false, ◌+◌, ◌≤◌, suc, length, List, [], ◌∷◌, map, slice_get, Some, nat_lt, refl, sym}
use Rattle.std.proofs.Common.{ap, arith}
use Rattle.std.specs.List.{prefix_len, insert, AllByRecursion}
use Rattle.std.specs.declared.cmp.Ordering.{Ordering}
use Rattle.std.specs.declared.cmp.Ordering.TheVariants.{Less, Equal, Greater}
use Rattle.std.specs.Ordering.{nat_cmp, match_ordering, MatchOrdering}
use Rattle.std.proofs.lemmas.Cmp.{ranked}
use Rattle.std.proofs.lemmas.Bool.{lt-ltb, le-ltb}
use Rattle.std.proofs.lemmas.Option.{same_Some}
use Rattle.std.proofs.lemmas.List.Sums.{prefix_len-le-length}
use Rattle.ltl_formula.specs.Increasing.{with_member, union}

abbrev lower : ℕ → List ℕ → ℕ
lower x ys = prefix_len (λ y. nat_lt y x) ys

pub stays : (x : ℕ) (ys : List ℕ) → slice_get ys (lower x ys) ≡ Some x → ys ≡ with_member nat_cmp x ys
stays x [] h = cc
stays x (y ∷ ys) h = by (nat_cmp x y) (ranked x y (nat_cmp x y) refl) h (stays x ys)
  where
    by : (o : Ordering) → MatchOrdering o (x < y) (x ≡ y) (y < x) → slice_get (y ∷ ys) (lower x (y ∷ ys)) ≡ Some x →
        (slice_get ys (lower x ys) ≡ Some x → ys ≡ with_member nat_cmp x ys)
        → y ∷ ys ≡ match_ordering o (x ∷ (y ∷ ys)) (y ∷ ys) (y ∷ with_member nat_cmp x ys)
    by Less r h rest =
        let no : nat_lt y x ≡ false = le-ltb y x (omega (arith, r)) in
        let same : y ≡ x = same_Some y x (rw no at h) in absurd (omega (arith, r))
    by Equal r h rest = refl
    by Greater r h rest =
        let yes : nat_lt y x ≡ true = lt-ltb y x r in
        let one : 1 + lower x ys ≡ suc (lower x ys) = omega arith in
        ap (λ zs. y ∷ zs) (rest (rw (yes, one) at h))

pub goes : (x : ℕ) (ys : List ℕ) → (slice_get ys (lower x ys) ≡ Some x → ⊥) → insert ys (lower x ys) x ≡ with_member nat_cmp x ys
goes x [] h = refl
goes x (y ∷ ys) h = by (nat_cmp x y) (ranked x y (nat_cmp x y) refl) h (goes x ys)
  where
    by : (o : Ordering) → MatchOrdering o (x < y) (x ≡ y) (y < x) → (slice_get (y ∷ ys) (lower x (y ∷ ys)) ≡ Some x → ⊥) →
        ((slice_get ys (lower x ys) ≡ Some x → ⊥) → insert ys (lower x ys) x ≡ with_member nat_cmp x ys)
        → insert (y ∷ ys) (lower x (y ∷ ys)) x ≡ match_ordering o (x ∷ (y ∷ ys)) (y ∷ ys) (y ∷ with_member nat_cmp x ys)
    by Less r h rest =
        let no : nat_lt y x ≡ false = le-ltb y x (omega (arith, r)) in rw no refl
    by Equal r h rest =
        let no : nat_lt y x ≡ false = le-ltb y x (omega (arith, r)) in
        absurd (h (rw no (ap Some (sym r))))
    by Greater r h rest =
        let yes : nat_lt y x ≡ true = lt-ltb y x r in
        let one : 1 + lower x ys ≡ suc (lower x ys) = omega arith in
        let h' = rw (yes, one) at h in
        rw (yes, one) (ap (λ zs. y ∷ zs) (rest h'))

pub lower-le : (x : ℕ) (ys : List ℕ) → lower x ys ≤ length ys
lower-le x ys = prefix_len-le-length (λ y. nat_lt y x) ys

-- the same, where the code has looked
pub when_there : (x : ℕ) (ys seen again : List ℕ) (place : ℕ) → seen ≡ ys → place ≡ lower x seen → again ≡ ys →
    slice_get again place ≡ Some x → ys ≡ with_member nat_cmp x ys
when_there x ys seen again place same at once h = stays x ys (rw (once, at, same) at h)

pub when_absent : (x : ℕ) (ys seen again : List ℕ) (place : ℕ) → seen ≡ ys → place ≡ lower x seen → again ≡ ys →
    (slice_get again place ≡ Some x → ⊥) → insert ys place x ≡ with_member nat_cmp x ys
when_absent x ys seen again place same at once h =
    rw (at, same) (goes x ys (λ k. h (rw (once, at, same) k)))

-- a function that keeps the order of the members keeps sets
module _ {A B : Type 0} (low : A → A → Ordering) (high : B → B → Ordering) (f : A → B) (P : A → Type 0)
    (keeps : (x y : A) → P x → P y → high (f x) (f y) ≡ low x y) where
  pub with_member-map : (x : A) (ys : List A) → P x → AllByRecursion P ys → map f (with_member low x ys) ≡ with_member high (f x) (map f ys)
  with_member-map x [] h all = refl
  with_member-map x (y ∷ ys) h all = by (low x y) (high (f x) (f y)) (keeps x y h all.0) (with_member-map x ys h all.1)
    where
      by : (o p : Ordering) → p ≡ o → map f (with_member low x ys) ≡ with_member high (f x) (map f ys)
          → map f (match_ordering o (x ∷ (y ∷ ys)) (y ∷ ys) (y ∷ with_member low x ys))
          ≡ match_ordering p (f x ∷ (f y ∷ map f ys)) (f y ∷ map f ys) (f y ∷ with_member high (f x) (map f ys))
      by Less p e rest = rw e refl
      by Equal p e rest = rw e refl
      by Greater p e rest = rw e (ap (λ zs. f y ∷ zs) rest)

  All-with_member : (x : A) (ys : List A) → P x → AllByRecursion P ys → AllByRecursion P (with_member low x ys)
  All-with_member x [] h all = (h, all)
  All-with_member x (y ∷ ys) h all = by (low x y) (All-with_member x ys h all.1)
    where
      by : (o : Ordering) → AllByRecursion P (with_member low x ys) →
          AllByRecursion P (match_ordering o (x ∷ (y ∷ ys)) (y ∷ ys) (y ∷ with_member low x ys))
      by Less rest = (h, all)
      by Equal rest = all
      by Greater rest = (all.0, rest)

  pub union-map : (xs ys : List A) → AllByRecursion P xs → AllByRecursion P ys → map f (union low xs ys) ≡ union high (map f xs) (map f ys)
  union-map xs [] left right = refl
  union-map xs (y ∷ ys) left right =
      union-map (with_member low y xs) ys (All-with_member y xs right.0 left) right.1
      ∙ ap (λ zs. union high zs (map f ys)) (with_member-map y xs right.0 left)
