-- Lists that are joined, mapped, taken apart, or made member by member.
use Rattle.std.proofs.Common.{
  ◌≡◌,
  ℕ,
  zero,
  suc,
  ◌+◌,
  ◌<◌,
  ◌≤◌,
  List,
  [],
  ◌∷◌,
  ◌++◌,
  length,
  take,
  drop,
  map,
  flat_map,
  get_or,
  refl,
  sym,
  ap,
  ◌∙◌,
  append_assoc,
  length-append,
  arith,
}
use Rattle.std.proofs.lemmas.List.{drop_more, take_more, map_push}

-- two lists that begin with as many members and are equal have equal fronts and equal rests
pub same_fronts : {X : Type 0} (a b x y : List X) → length a ≡ length b → a ++ x ≡ b ++ y → (a ≡ b) × (x ≡ y)
same_fronts [] [] x y same e = (refl, e)
same_fronts [] (d ∷ b) x y same e = absurd (omega arith)
same_fronts (c ∷ a) [] x y same e = absurd (omega arith)
same_fronts {X = X} (c ∷ a) (d ∷ b) x y same e =
    let heads : c ≡ d = cc in
    let tails : a ++ x ≡ b ++ y = cc in
    let rest = same_fronts a b x y (omega arith) tails in
    ((λ i. heads i ∷ rest.0 i), rest.1)

-- the first member and the rest
pub heads : {X : Type 0} (a b : X) (u v : List X) → a ∷ u ≡ b ∷ v → a ≡ b
heads a b u v e = cc

pub tails : {X : Type 0} (a b : X) (u v : List X) → a ∷ u ≡ b ∷ v → u ≡ v
tails a b u v e = cc

-- a list with one more at the end is not empty
pub push_not_empty : {X : Type 0} (xs : List X) (y : X) → xs ++ y ∷ [] ≡ [] → ⊥
push_not_empty [] y e = cc
push_not_empty (x ∷ xs) y e = cc

-- functions that agree on each member
pub map_agree : {X Y : Type 0} (f g : X → Y) → ((x : X) → f x ≡ g x) → (xs : List X) → map f xs ≡ map g xs
map_agree f g same xs = λ i. map (λ x. same x i) xs

pub flat_map_agree : {X Y : Type 0} (f g : X → List Y) → ((x : X) → f x ≡ g x) → (xs : List X) → flat_map f xs ≡ flat_map g xs
flat_map_agree f g same xs = λ i. flat_map (λ x. same x i) xs

-- a loop that writes: what is written and what is left make the whole
pub written_step : {X : Type 0} (before after piece left rest whole : List X) → before ++ left ≡ whole → left ≡ piece ++ rest →
    after ≡ before ++ piece → after ++ rest ≡ whole
written_step {X = X} before after piece left rest whole written splits more =
    ap (λ (ys : List X). ys ++ rest) more
    ∙ append_assoc before piece rest
    ∙ ap (λ (ys : List X). before ++ ys) (sym splits)
    ∙ written

-- what is left begins with the member that was read
pub left_at : {X : Type 0} (xs : List X) (i : ℕ) (x : X) → i < length xs → x ≡ get_or xs i x → drop i xs ≡ x ∷ drop (i + 1) xs
left_at {X = X} xs i x within is = drop_more xs i x within ∙ ap (λ (y : X). y ∷ drop (i + 1) xs) (sym is)

-- the first of a list that is put in front of another
pub take_one_append : {X : Type 0} (xs ys : List X) → take 1 (take 1 xs ++ ys) ≡ take 1 (xs ++ ys)
take_one_append [] ys = refl
take_one_append (x ∷ xs) ys = refl

-- two functions in turn are one
pub map_map : {X Y Z : Type 0} (f : Y → Z) (g : X → Y) (xs : List X) → map f (map g xs) ≡ map (λ x. f (g x)) xs
map_map f g [] = refl
map_map f g (x ∷ xs) = ap (λ rest. f (g x) ∷ rest) (map_map f g xs)

-- two lists whose images are the same: one member more of each
pub alike_push : {X Y Z : Type 0} (f : X → Z) (g : Y → Z) (xs : List X) (x : X) (ys : List Y) (i : ℕ) (d : Y) → i < length ys →
    map f xs ≡ map g (take i ys) → f x ≡ g (get_or ys i d) → map f (xs ++ x ∷ []) ≡ map g (take (i + 1) ys)
alike_push f g xs x ys i d within so_far same =
    map_push f xs x ∙ (λ k. so_far k ++ same k ∷ [])
    ∙ sym (map_push g (take i ys) (get_or ys i d)) ∙ ap (map g) (sym (take_more ys i d within))

-- the same where the member is named by itself
pub alike_more : {X Y Z : Type 0} (f : X → Z) (g : Y → Z) (old new : List X) (x : X) (ys : List Y) (i : ℕ) (y : Y) → i < length ys →
    y ≡ get_or ys i y → map f old ≡ map g (take i ys) → f x ≡ g y → new ≡ old ++ x ∷ [] → map f new ≡ map g (take (i + 1) ys)
alike_more f g old new x ys i y within is so_far same pushed =
    ap (map f) pushed ∙ alike_push f g old x ys i y within so_far (same ∙ ap g is)

-- a list of what is made of each
pub made_more : {Y Z : Type 0} (g : Y → Z) (old new : List Z) (z : Z) (ys : List Y) (i : ℕ) (y : Y) → i < length ys →
    y ≡ get_or ys i y → old ≡ map g (take i ys) → z ≡ g y → new ≡ old ++ z ∷ [] → new ≡ map g (take (i + 1) ys)
made_more g old new z ys i y within is so_far same pushed =
    pushed ∙ (λ k. so_far k ++ same k ∷ []) ∙ ap (λ x. map g (take i ys) ++ g x ∷ []) is
    ∙ sym (map_push g (take i ys) (get_or ys i y)) ∙ ap (map g) (sym (take_more ys i y within))

-- images that are made, and then those that are left
pub map_push_front : {X Y : Type 0} (f : X → Y) (xs : List X) (x : X) (rest : List Y) →
    map f (xs ++ x ∷ []) ++ rest ≡ map f xs ++ (f x ∷ rest)
map_push_front f [] x rest = refl
map_push_front f (y ∷ xs) x rest = ap (λ ys. f y ∷ ys) (map_push_front f xs x rest)

-- these members, and then those of a list of another type, of which `more` puts one in front
abbrev pub with_front : {X L : Type 0} → (X → L → L) → List X → L → L
with_front more [] rest = rest
with_front more (x ∷ front) rest = more x (with_front more front rest)

pub with_front_push : {X Y L : Type 0} (more : Y → L → L) (f : X → Y) (front : List X) (x : X) (rest : L) →
    with_front more (map f (front ++ x ∷ [])) rest ≡ with_front more (map f front) (more (f x) rest)
with_front_push more f [] x rest = refl
with_front_push more f (y ∷ front) x rest = ap (more (f y)) (with_front_push more f front x rest)

-- lists that are not empty
pub not_empty_before : {X : Type 0} (xs ys : List X) → (xs ≡ [] → ⊥) → xs ++ ys ≡ [] → ⊥
not_empty_before [] ys some e = some refl
not_empty_before (x ∷ xs) ys some e = cc

pub not_empty_behind : {X : Type 0} (xs ys : List X) → (ys ≡ [] → ⊥) → xs ++ ys ≡ [] → ⊥
not_empty_behind [] ys some e = some e
not_empty_behind (x ∷ xs) ys some e = cc

-- a list that is one of those that are joined is not longer than all together
part_within : {X Y Z : Type 0} (f : Y → List Z) (v : X → Y) (xs : List X) (i : ℕ) (d : X) → i < length xs →
    length (f (v (get_or xs i d))) ≤ length (flat_map f (map v xs))
part_within f v [] i d within = absurd (omega arith)
part_within f v (x ∷ xs) zero d within = omega (arith, length-append (f (v x)) (flat_map f (map v xs)))
part_within f v (x ∷ xs) (suc i) d within =
    omega (arith, part_within f v xs i d (omega arith), length-append (f (v x)) (flat_map f (map v xs)))

pub part_is_few : {X Y Z : Type 0} (f : Y → List Z) (v : X → Y) (xs : List X) (i : ℕ) (d : X) (most : ℕ) →
    length (flat_map f (map v xs)) < most → i < length xs → length (f (v (get_or xs i d))) < most
part_is_few f v xs i d most few within = omega (arith, few, part_within f v xs i d within)

-- a function that another one takes back
pub map_taken_back : {X Y : Type 0} (f : X → Y) (back : Y → X) → ((x : X) → back (f x) ≡ x) → (xs ys : List X) →
    map f xs ≡ map f ys → xs ≡ ys
map_taken_back f back is xs ys same = sym (all xs) ∙ ap (map back) same ∙ all ys
  where
    all : (zs : List _) → map back (map f zs) ≡ zs
    all [] = refl
    all (z ∷ zs) = λ i. is z i ∷ all zs i
