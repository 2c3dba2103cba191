-- What holds of an option's value, and of the values of two options, step by step as they are made.
use Rattle.std.proofs.Common.{◌≡◌, List, [], ◌∷◌, map, refl, ap, sym, ◌∙◌, subst}
use Rattle.std.specs.Prelude.{Option, Some, None, option_map, option_and_then, ⊤}
use Rattle.base_library.specs.Options.{all_there}

-- ---- of one option

abbrev pub Holds : {A : Type 0} → (A → Type 0) → Option A → Type 0
Holds P None = ⊤
Holds P (Some a) = P a

pub held : {A : Type 0} (P : A → Type 0) (o : Option A) (a : A) → Holds P o → o ≡ Some a → P a
held P o a holds is = subst (Holds P) is holds

pub map_holds : {A C : Type 0} (P : C → Type 0) (f : A → C) (o : Option A) → ((a : A) → o ≡ Some a → P (f a)) → Holds P (option_map f o)
map_holds P f None each = tt
map_holds P f (Some a) each = each a refl

pub then_holds : {A C : Type 0} (P : C → Type 0) (f : A → Option C) (o : Option A) → ((a : A) → o ≡ Some a → Holds P (f a)) →
    Holds P (option_and_then f o)
then_holds P f None each = tt
then_holds P f (Some a) each = each a refl

-- ---- of two options: where both are there, the second is what the first becomes

abbrev pub Agree : {A B : Type 0} → (A → B) → Option A → Option B → Type 0
Agree h None p = ⊤
Agree h (Some a) None = ⊤
Agree h (Some a) (Some b) = b ≡ h a

pub agreed : {A B : Type 0} (h : A → B) (o : Option A) (p : Option B) (a : A) (b : B) → Agree h o p → o ≡ Some a → p ≡ Some b → b ≡ h a
agreed h o p a b agree is too = subst (λ q. Agree h q (Some b)) is (subst (Agree h o) too agree)

none_agrees : {A B : Type 0} (h : A → B) (o : Option A) → Agree h o None
none_agrees h None = tt
none_agrees h (Some a) = tt

pub itself_agrees : {A : Type 0} (o : Option A) → Agree (λ a. a) o o
itself_agrees None = tt
itself_agrees (Some a) = refl

pub map_agrees : {A B C D : Type 0} (h : A → B) (k : C → D) (f : A → C) (g : B → D) (o : Option A) (p : Option B) →
    ((a : A) → g (h a) ≡ k (f a)) → Agree h o p → Agree k (option_map f o) (option_map g p)
map_agrees h k f g None p law is = tt
map_agrees h k f g (Some a) None law is = tt
map_agrees h k f g (Some a) (Some b) law is = ap g is ∙ law a

pub then_agrees : {A B C D : Type 0} (h : A → B) (k : C → D) (f : A → Option C) (g : B → Option D) (o : Option A) (p : Option B) →
    ((a : A) → Agree k (f a) (g (h a))) → Agree h o p → Agree k (option_and_then f o) (option_and_then g p)
then_agrees h k f g None p law is = tt
then_agrees h k f g (Some a) None law is = none_agrees k (f a)
then_agrees h k f g (Some a) (Some b) law is = subst (λ c. Agree k (f a) (g c)) (sym is) (law a)

pub all_agree : {X A B : Type 0} (h : A → B) (f : X → Option A) (g : X → Option B) → ((x : X) → Agree h (f x) (g x)) → (xs : List X) →
    Agree (map h) (all_there (map f xs)) (all_there (map g xs))
all_agree h f g each [] = refl
all_agree {A = A} {B = B} h f g each (x ∷ xs) = by (f x) (g x) (each x) (all_agree h f g each xs) where
  by : (o : Option A) (p : Option B) → Agree h o p → Agree (map h) (all_there (map f xs)) (all_there (map g xs)) →
      Agree (map h) (all_there (o ∷ map f xs)) (all_there (p ∷ map g xs))
  by None p is rest = tt
  by (Some a) None is rest = none_agrees (map h) (option_map (λ ys. a ∷ ys) (all_there (map f xs)))
  by (Some a) (Some b) is rest =
      map_agrees (map h) (map h) (λ ys. a ∷ ys) (λ ys. b ∷ ys) (all_there (map f xs)) (all_there (map g xs))
      (λ ys. ap (λ c. c ∷ map h ys) is) rest
