-- Lists that rise keep rising with one more member, and have the members that they should.
use Rattle.std.proofs.Common.{◌≡◌, ◌∙◌, Bool, ◌&&◌, ◌||◌, List, [], ◌∷◌, refl, sym, ap}
use Rattle.std.specs.List.{list_any, list_all, AllByRecursion}
use Rattle.std.specs.declared.cmp.Ordering.{Ordering}
use Rattle.std.specs.declared.cmp.Ordering.TheVariants.{Less, Equal, Greater}
use Rattle.std.specs.Ordering.{match_ordering, ordering_reverse}
use Rattle.std.specs.Cmp.{IsTotalOrder}
use Rattle.std.proofs.Math.Bool.{or_assoc, or_comm, or_self_left, or-false, and_assoc, and_comm, and_self_left, and-true}
use Rattle.ltl_formula.specs.Increasing.{IsIncreasing, with_member, union}

or_swap : (a b c : Bool) → (b || (a || c)) ≡ (a || (b || c))
or_swap a b c = sym (or_assoc b a c) ∙ ap (λ d. d || c) (or_comm b a) ∙ or_assoc a b c

or_turn : (a b c : Bool) → ((a || b) || c) ≡ (b || (a || c))
or_turn a b c = ap (λ d. d || c) (or_comm a b) ∙ or_assoc b a c

module _ {A : Type 0} (cmp : A → A → Ordering) where
  -- what holds of a member and of each of a list holds of each with that member
  pub each-with_member : (P : A → Type 0) (x : A) (ys : List A) → P x → AllByRecursion P ys → AllByRecursion P (with_member cmp x ys)
  each-with_member P x [] here each = (here, each)
  each-with_member P x (y ∷ ys) here each = by (cmp x y) (each-with_member P x ys here each.1)
    where
      by : (o : Ordering) → AllByRecursion P (with_member cmp x ys) →
          AllByRecursion P (match_ordering o (x ∷ (y ∷ ys)) (y ∷ ys) (y ∷ with_member cmp x ys))
      by Less rest = (here, each)
      by Equal rest = each
      by Greater rest = (each.0, rest)

  pub each-union : (P : A → Type 0) (xs ys : List A) → AllByRecursion P xs → AllByRecursion P ys → AllByRecursion P (union cmp xs ys)
  each-union P xs [] left right = left
  each-union P xs (y ∷ ys) left right = each-union P (with_member cmp y xs) ys (each-with_member P y xs right.0 left) right.1

  module _ (total : IsTotalOrder cmp) where
    below : (x y : A) (ys : List A) → cmp x y ≡ Less → AllByRecursion (λ z. cmp y z ≡ Less) ys → AllByRecursion (λ z. cmp x z ≡ Less) ys
    below x y [] less each = tt
    below x y (z ∷ ys) less each = (total.trans x y z less each.0, below x y ys less each.1)

    pub rises-with_member : (x : A) (ys : List A) → IsIncreasing cmp ys → IsIncreasing cmp (with_member cmp x ys)
    rises-with_member x [] up = (tt, tt)
    rises-with_member x (y ∷ ys) up = by (cmp x y) refl (rises-with_member x ys up.1)
      where
        by : (o : Ordering) → cmp x y ≡ o → IsIncreasing cmp (with_member cmp x ys)
            → IsIncreasing cmp (match_ordering o (x ∷ (y ∷ ys)) (y ∷ ys) (y ∷ with_member cmp x ys))
        by Less is rest = ((is, below x y ys is up.0), up)
        by Equal is rest = up
        by Greater is rest = (each-with_member (λ z. cmp y z ≡ Less) x ys (total.antisymm y x ∙ ap ordering_reverse is) up.0, rest)

    pub rises-union : (xs ys : List A) → IsIncreasing cmp xs → IsIncreasing cmp (union cmp xs ys)
    rises-union xs [] up = up
    rises-union xs (y ∷ ys) up = rises-union (with_member cmp y xs) ys (rises-with_member y xs up)

  -- a test passes for some member of both lists exactly where it passes for some member of one
  module _ (same : (x y : A) → cmp x y ≡ Equal → x ≡ y) (p : A → Bool) where
    pub any-with_member : (x : A) (ys : List A) → list_any p (with_member cmp x ys) ≡ (p x || list_any p ys)
    any-with_member x [] = refl
    any-with_member x (y ∷ ys) = by (cmp x y) refl (any-with_member x ys)
      where
        by : (o : Ordering) → cmp x y ≡ o → list_any p (with_member cmp x ys) ≡ (p x || list_any p ys)
            → list_any p (match_ordering o (x ∷ (y ∷ ys)) (y ∷ ys) (y ∷ with_member cmp x ys)) ≡ (p x || (p y || list_any p ys))
        by Less is rest = refl
        by Equal is rest = sym (or_self_left (p y) (list_any p ys)) ∙ ap (λ z. p z || (p y || list_any p ys)) (sym (same x y is))
        by Greater is rest = ap (λ b. p y || b) rest ∙ or_swap (p x) (p y) (list_any p ys)

    pub any-union : (xs ys : List A) → list_any p (union cmp xs ys) ≡ (list_any p xs || list_any p ys)
    any-union xs [] = sym (or-false (list_any p xs))
    any-union xs (y ∷ ys) =
        any-union (with_member cmp y xs) ys ∙ ap (λ b. b || list_any p ys) (any-with_member y xs)
        ∙ or_turn (p y) (list_any p xs) (list_any p ys)

and_swap : (a b c : Bool) → (b && (a && c)) ≡ (a && (b && c))
and_swap a b c = sym (and_assoc b a c) ∙ ap (λ d. d && c) (and_comm b a) ∙ and_assoc a b c

and_turn : (a b c : Bool) → ((a && b) && c) ≡ (b && (a && c))
and_turn a b c = ap (λ d. d && c) (and_comm a b) ∙ and_assoc b a c

-- a test holds of each member of both lists exactly where it holds of each member of one and of the other
module _ {A : Type 0} (cmp : A → A → Ordering) (same : (x y : A) → cmp x y ≡ Equal → x ≡ y) (p : A → Bool) where
  pub all-with_member : (x : A) (ys : List A) → list_all p (with_member cmp x ys) ≡ (p x && list_all p ys)
  all-with_member x [] = refl
  all-with_member x (y ∷ ys) = by (cmp x y) refl (all-with_member x ys)
    where
      by : (o : Ordering) → cmp x y ≡ o → list_all p (with_member cmp x ys) ≡ (p x && list_all p ys)
          → list_all p (match_ordering o (x ∷ (y ∷ ys)) (y ∷ ys) (y ∷ with_member cmp x ys)) ≡ (p x && (p y && list_all p ys))
      by Less is rest = refl
      by Equal is rest = sym (and_self_left (p y) (list_all p ys)) ∙ ap (λ z. p z && (p y && list_all p ys)) (sym (same x y is))
      by Greater is rest = ap (λ b. p y && b) rest ∙ and_swap (p x) (p y) (list_all p ys)

  pub all-union : (xs ys : List A) → list_all p (union cmp xs ys) ≡ (list_all p xs && list_all p ys)
  all-union xs [] = sym (and-true (list_all p xs))
  all-union xs (y ∷ ys) =
      all-union (with_member cmp y xs) ys ∙ ap (λ b. b && list_all p ys) (all-with_member y xs)
      ∙ and_turn (p y) (list_all p xs) (list_all p ys)
