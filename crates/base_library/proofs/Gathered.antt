-- Lists whose members are all there, and lists that are gathered member by member.
use Rattle.std.proofs.Common.{
  ◌≡◌,
  ℕ,
  zero,
  suc,
  ◌+◌,
  ◌<◌,
  List,
  [],
  ◌∷◌,
  ◌++◌,
  length,
  map,
  take,
  drop,
  get_or,
  Option,
  Some,
  None,
  slice_get,
  refl,
  sym,
  ap,
  ◌∙◌,
  append_assoc,
  arith,
  IsTrue,
}
use Rattle.std.specs.Prelude.{option_map, is_some, IsSome}
use Rattle.std.proofs.lemmas.Bool.{false≢true}
use Rattle.std.proofs.lemmas.List.{take_more, drop_more, drop_all, append-nil, map-append, map_push}
use Rattle.std.proofs.lemmas.Option.{none-some, same_Some}
use Rattle.base_library.specs.Numbers.{numbers_from}
use Rattle.base_library.specs.Options.{all_there}
use Rattle.base_library.proofs.Lists.{left_at}
use Rattle.base_library.proofs.Numbers.{numbers_more}
use Rattle.base_library.proofs.Options.{some_mapped, map_there}

-- ---- lists whose members are all there

-- the members are as many
pub length-all_there : {X : Type 0} (os : List (Option X)) (xs : List X) → all_there os ≡ Some xs → length xs ≡ length os
length-all_there [] xs is = sym (ap length (same_Some [] xs is))
length-all_there (None ∷ os) xs is = absurd (none-some xs is)
length-all_there (Some x ∷ os) xs is =
    let rest = some_mapped (λ ys. x ∷ ys) (all_there os) xs is in
    sym (ap length rest.2) ∙ ap suc (length-all_there os rest.0 rest.1)

-- one more in front, and one more behind
pub all_there_next : {X Y : Type 0} (f : X → Option Y) (x : X) (xs : List X) (y : Y) (ys : List Y) → f x ≡ Some y →
    all_there (map f xs) ≡ Some ys → all_there (map f (x ∷ xs)) ≡ Some (y ∷ ys)
all_there_next f x xs y ys is rest = ap (λ first. all_there (first ∷ map f xs)) is ∙ ap (option_map (λ zs. y ∷ zs)) rest

pub all_there_push : {X : Type 0} (os : List (Option X)) (xs : List X) (x : X) → all_there os ≡ Some xs →
    all_there (os ++ Some x ∷ []) ≡ Some (xs ++ x ∷ [])
all_there_push [] xs x is = ap (λ ys. Some (ys ++ x ∷ [])) (same_Some [] xs is)
all_there_push (None ∷ os) xs x is = absurd (none-some xs is)
all_there_push (Some y ∷ os) xs x is =
    let rest = some_mapped (λ ys. y ∷ ys) (all_there os) xs is in
    ap (option_map (λ zs. y ∷ zs)) (all_there_push os rest.0 x rest.1) ∙ ap (λ zs. Some (zs ++ x ∷ [])) rest.2

-- they are all there where each is, and the other way round
pub all_there_of_each : {X Y : Type 0} (f : X → Option Y) (xs : List X) → ((i : ℕ) (x : X) → slice_get xs i ≡ Some x → IsSome (f x)) →
    IsSome (all_there (map f xs))
all_there_of_each f [] each = refl
all_there_of_each {Y = Y} f (x ∷ xs) each = by (f x) (each 0 x refl) (all_there_of_each f xs (λ i y at. each (suc i) y at))
  where
    by : (o : Option Y) → IsSome o → IsSome (all_there (map f xs)) → IsSome (all_there (o ∷ map f xs))
    by None here rest = absurd (false≢true here)
    by (Some y) here rest = map_there (λ ys. y ∷ ys) (all_there (map f xs)) rest

there_first : {X Y : Type 0} (f : X → Option Y) (x : X) (xs : List X) → IsTrue (is_some (all_there (map f (x ∷ xs)))) →
    IsTrue (is_some (f x)) × IsTrue (is_some (all_there (map f xs)))
there_first {Y = Y} f x xs h = by (f x) (all_there (map f xs)) refl h
  where
    by : (first : Option Y) (rest : Option (List Y)) → all_there (map f xs) ≡ rest → IsTrue (is_some (all_there (first ∷ map f xs))) →
        IsTrue (is_some first) × IsTrue (is_some rest)
    by None rest e k = absurd cc
    by (Some y) None e k = absurd (false≢true (sym (ap (λ o. is_some (option_map (λ ys. y ∷ ys) o)) e) ∙ k))
    by (Some y) (Some ys) e k = (refl, refl)

pub each_there_within : {X Y : Type 0} (f : X → Option Y) (xs : List X) (i : ℕ) (d : X) → IsTrue (is_some (all_there (map f xs))) →
    i < length xs → IsTrue (is_some (f (get_or xs i d)))
each_there_within f [] i d h within = absurd (omega arith)
each_there_within f (x ∷ xs) zero d h within = (there_first f x xs h).0
each_there_within f (x ∷ xs) (suc i) d h within = each_there_within f xs i d (there_first f x xs h).1 (omega arith)

-- the same of the images of a function
pub each_image_there_within : {X Y Z : Type 0} (f : X → Option Y) (v : Z → X) (zs : List Z) (i : ℕ) (d : Z) →
    IsTrue (is_some (all_there (map f (map v zs)))) → i < length zs → IsTrue (is_some (f (v (get_or zs i d))))
each_image_there_within f v [] i d h within = absurd (omega arith)
each_image_there_within f v (z ∷ zs) zero d h within = (there_first f (v z) (map v zs) h).0
each_image_there_within f v (z ∷ zs) (suc i) d h within =
    each_image_there_within f v zs i d (there_first f (v z) (map v zs) h).1 (omega arith)

-- ---- a loop that keeps those before a place

-- one member of a list more
pub gather_more : {X Y : Type 0} (f : Y → Option X) (ys : List Y) (i : ℕ) (d : Y) (xs : List X) (x : X) → i < length ys →
    f (get_or ys i d) ≡ Some x → all_there (map f (take i ys)) ≡ Some xs → all_there (map f (take (i + 1) ys)) ≡ Some (xs ++ x ∷ [])
gather_more f ys i d xs x within is h =
    ap (λ zs. all_there (map f zs)) (take_more ys i d within)
    ∙ ap all_there (map-append f (take i ys) (get_or ys i d ∷ []) ∙ ap (λ o. map f (take i ys) ++ o ∷ []) is)
    ∙ all_there_push (map f (take i ys)) xs x h

-- one number more
pub gather_number : {X : Type 0} (f : ℕ → Option X) (n : ℕ) (xs : List X) (x : X) → f n ≡ Some x →
    all_there (map f (numbers_from 0 n)) ≡ Some xs → all_there (map f (numbers_from 0 (n + 1))) ≡ Some (xs ++ x ∷ [])
gather_number f n xs x is h =
    let next : n + 1 ≡ suc n = omega arith in
    ap (λ ns. all_there (map f ns)) (ap (numbers_from 0) next ∙ numbers_more 0 n n (omega arith))
    ∙ ap all_there (map-append f (numbers_from 0 n) (n ∷ []) ∙ ap (λ o. map f (numbers_from 0 n) ++ o ∷ []) is)
    ∙ all_there_push (map f (numbers_from 0 n)) xs x h

-- ---- a loop that keeps those before a place in front of those that are left

front_more : {Y : Type 0} (front : List Y) (y : Y) (rest : Option (List Y)) →
    option_map (λ ys. (front ++ y ∷ []) ++ ys) rest ≡ option_map (λ ys. front ++ ys) (option_map (λ ys. y ∷ ys) rest)
front_more front y None = refl
front_more front y (Some ys) = ap Some (append_assoc front (y ∷ []) ys)

pub gathered_first : {Y : Type 0} (whole : Option (List Y)) → option_map (λ ys. [] ++ ys) whole ≡ whole
gathered_first None = refl
gathered_first (Some ys) = refl

-- of images of a function, and made of images of another
pub gathered_more : {X Y Z W : Type 0} (f : X → Option Y) (v : Z → X) (w : W → Y) (zs : List Z) (i : ℕ) (z : Z) (done more : List W)
    (new : W) (whole : Option (List Y)) → i < length zs → z ≡ get_or zs i z → more ≡ done ++ new ∷ [] → f (v z) ≡ Some (w new) →
    option_map (λ ys. map w done ++ ys) (all_there (map f (map v (drop i zs)))) ≡ whole →
    option_map (λ ys. map w more ++ ys) (all_there (map f (map v (drop (i + 1) zs)))) ≡ whole
gathered_more {Y = Y} f v w zs i z done more new whole within element is here h =
    let rest : Option (List Y) = all_there (map f (map v (drop (i + 1) zs))) in
    ap (λ ws. option_map (λ ys. map w ws ++ ys) rest) is
    ∙ ap (λ zs. option_map (λ ys. zs ++ ys) rest) (map_push w done new)
    ∙ front_more (map w done) (w new) rest
    ∙ ap (λ first. option_map (λ ys. map w done ++ ys) (all_there (first ∷ map f (map v (drop (i + 1) zs))))) (sym here)
    ∙ sym (ap (λ us. option_map (λ ys. map w done ++ ys) (all_there (map f (map v us)))) (left_at zs i z within element)) ∙ h

pub gathered_all : {X Y Z W : Type 0} (f : X → Option Y) (v : Z → X) (w : W → Y) (zs : List Z) (i : ℕ) (done : List W)
    (whole : Option (List Y)) → (i < length zs → ⊥) →
    option_map (λ ys. map w done ++ ys) (all_there (map f (map v (drop i zs)))) ≡ whole → whole ≡ Some (map w done)
gathered_all f v w zs i done whole out h =
    sym h ∙ ap (λ us. option_map (λ ys. map w done ++ ys) (all_there (map f (map v us)))) (drop_all i zs (omega (arith, out)))
    ∙ ap Some (append-nil (map w done))

-- of the members themselves
pub copied_more : {X Y : Type 0} (f : X → Option Y) (xs : List X) (i : ℕ) (d : X) (done more : List Y) (new : Y) (whole : Option (List Y)) →
    i < length xs → more ≡ done ++ new ∷ [] → f (get_or xs i d) ≡ Some new →
    option_map (λ ys. done ++ ys) (all_there (map f (drop i xs))) ≡ whole →
    option_map (λ ys. more ++ ys) (all_there (map f (drop (i + 1) xs))) ≡ whole
copied_more {Y = Y} f xs i d done more new whole within is here h =
    let rest : Option (List Y) = all_there (map f (drop (i + 1) xs)) in
    ap (λ zs. option_map (λ ys. zs ++ ys) rest) is
    ∙ front_more done new rest
    ∙ ap (λ first. option_map (λ ys. done ++ ys) (all_there (first ∷ map f (drop (i + 1) xs)))) (sym here)
    ∙ sym (ap (λ us. option_map (λ ys. done ++ ys) (all_there (map f us))) (drop_more xs i d within)) ∙ h
