-- Options: what std's lemmas `Option` leave.
use Rattle.std.proofs.Common.{◌≡◌, ℕ, Bool, true, false, not, Option, Some, None, List, slice_get, refl, sym, ◌∙◌, IsTrue}
use Rattle.std.specs.Option.{option_map_or, is_none}
use Rattle.std.specs.Prelude.{option_map, option_and_then, is_some, IsSome}
use Rattle.std.proofs.lemmas.Option.{none-some, same_Some}

-- an option has one value
pub one_value : {X : Type 0} (o : Option X) (x y : X) → o ≡ Some x → o ≡ Some y → x ≡ y
one_value o x y is too i = same_Some x y (sym is ∙ too) i

-- a test that an option's value passes, and where there is none does not
pub some_passes : {X : Type 0} (o : Option X) (test : X → Bool) → IsTrue (option_map_or test o false) →
    (x : X) × (o ≡ Some x) × IsTrue (test x)
some_passes None test passes = absurd cc
some_passes (Some x) test passes = (x, refl, passes)

-- what is refuted at every value leaves none
pub only_none : {X : Type 0} (R : Option X → Type 0) → ((x : X) → R (Some x) → ⊥) → (y : Option X) → R y → y ≡ None
only_none R never None holds = refl
only_none R never (Some x) holds = absurd (never x holds)

-- what stands at a place that may be missing
pub found_place : {X : Type 0} (xs : List X) (place : Option ℕ) (x : X) → Some x ≡ option_and_then (slice_get xs) place →
    (at : ℕ) × (place ≡ Some at) × (slice_get xs at ≡ Some x)
found_place xs None x found = absurd cc
found_place xs (Some at) x found = (at, refl, sym found)

pub no_place : {X : Type 0} (xs : List X) (place : Option ℕ) → ((at : ℕ) → place ≡ Some at → (x : X) × (slice_get xs at ≡ Some x)) →
    None ≡ option_and_then (slice_get xs) place → place ≡ None
no_place xs None there none = refl
no_place xs (Some at) there none = let x = there at refl in let never : Some x.0 ≡ None = sym x.1 ∙ sym none in cc

-- ---- what is there, and what is not

pub some_is : {X : Type 0} (o : Option X) → is_some o ≡ true → (x : X) × (o ≡ Some x)
some_is None there = absurd cc
some_is (Some x) there = (x, refl)

pub none_is : {X : Type 0} (o : Option X) → is_some o ≡ false → o ≡ None
none_is None absent = refl
none_is (Some x) absent = absurd cc

pub is_none_is : {X : Type 0} (o : Option X) → is_none o ≡ true → o ≡ None
is_none_is None absent = refl
is_none_is (Some x) absent = absurd cc

pub none_never_some : {X : Type 0} (o : Option X) (x : X) → o ≡ None → o ≡ Some x → ⊥
none_never_some o x absent there = none-some x (sym absent ∙ there)

pub none_never_there : {X : Type 0} (o : Option X) → None ≡ o → IsSome o → ⊥
none_never_there None absent there = absurd cc
none_never_there (Some x) absent there = absurd cc

-- by a test of it
pub not_false_of_some : {X : Type 0} (o : Option X) (x : X) (test : Bool) → o ≡ Some x → is_some o ≡ test → not test ≡ false
not_false_of_some o x test is tests = rw (← tests, is) refl

pub not_true_of_none : {X : Type 0} (o : Option X) (test : Bool) → o ≡ None → is_some o ≡ test → not test ≡ true
not_true_of_none o test is tests = rw (← tests, is) refl

-- ---- under a function

pub some_mapped : {X Y : Type 0} (f : X → Y) (o : Option X) (y : Y) → option_map f o ≡ Some y → (x : X) × (o ≡ Some x) × (f x ≡ y)
some_mapped f None y is = absurd cc
some_mapped f (Some x) y is = (x, refl, same_Some (f x) y is)

pub none_mapped : {X Y : Type 0} (f : X → Y) (o : Option X) → option_map f o ≡ None → o ≡ None
none_mapped f None is = refl
none_mapped f (Some x) is = absurd cc

pub there_mapped : {X Y : Type 0} (f : X → Y) (o : Option X) → IsSome (option_map f o) → IsSome o
there_mapped f None there = there
there_mapped f (Some x) there = refl

pub map_there : {X Y : Type 0} (f : X → Y) (o : Option X) → IsSome o → IsSome (option_map f o)
map_there f None there = there
map_there f (Some x) there = refl

pub then_there : {X Y : Type 0} (f : X → Option Y) (o : Option X) → IsSome o → ((x : X) → IsSome (f x)) → IsSome (option_and_then f o)
then_there f None there each = there
then_there f (Some x) there each = each x

pub there_before : {X Y : Type 0} (f : X → Option Y) (o : Option X) → IsSome (option_and_then f o) → (x : X) × (o ≡ Some x)
there_before f None there = absurd cc
there_before f (Some x) there = (x, refl)
