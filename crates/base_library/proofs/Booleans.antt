-- Tests: what std's `and_parts`, `and_from`, `or_cases` and `false_from_ne_true` leave.
use Rattle.std.proofs.Common.{◌≡◌, ℕ, ◌==◌, Bool, true, false, not, ◌&&◌, ◌||◌, refl, sym, ap, ◌∙◌}
use Rattle.std.proofs.lemmas.Bool.{eq-eqb}
use Rattle.std.proofs.Math.Bool.{or_assoc}

-- a number equals itself
pub eqb_self : (n : ℕ) → (n == n) ≡ true
eqb_self n = eq-eqb n n refl

-- two tests that imply each other are equal
pub same_tests : (a b : Bool) → (a ≡ true → b ≡ true) → (b ≡ true → a ≡ true) → a ≡ b
same_tests true true f g = refl
same_tests true false f g = sym (f refl)
same_tests false true f g = g refl
same_tests false false f g = refl

pub not_not : (b : Bool) → not (not b) ≡ b
not_not true = refl
not_not false = refl

-- what `&&` gives where its left side is true, and where it is false
pub and_then : (a b r : Bool) → a ≡ true → r ≡ b → r ≡ (a && b)
and_then a b r is then_b = rw is then_b

pub and_else : (a b r : Bool) → a ≡ false → r ≡ false → r ≡ (a && b)
and_else a b r is then_false = rw is then_false

-- a truth that is gathered by `||`: a step that takes a first part, where another is left
pub or_step : (old new a b all : Bool) → (old || (a || b)) ≡ all → new ≡ (old || a) → (new || b) ≡ all
or_step old new a b all before step = ap (λ c. c || b) step ∙ or_assoc old a b ∙ before
