-- Lists that are gathered, and lists of numbers that grow by one in each round of a loop.
use Rattle.std.proofs.Common.{◌≡◌, ◌∙◌, ℕ, ◌+◌, ◌<◌, List, [], ◌∷◌, ◌++◌, length, map, take, get_or, Option, Some, None, sym, ap}
use Rattle.std.proofs.lemmas.List.{take_more, map-append}
use Rattle.std.specs.List.{AllByRecursion}
use Rattle.base_library.specs.Options.{all_there}
use Rattle.base_library.proofs.Gathered.{gather_more}
use Rattle.base_library.proofs.Options.{some_mapped}
use Rattle.std.proofs.lemmas.Option.{none-some, same_Some}

-- where all are there, the list is theirs
pub gathered_are : {X : Type 0} (os : List (Option X)) (xs : List X) → all_there os ≡ Some xs → os ≡ map (λ x. Some x) xs
gathered_are [] xs is = ap (map (λ x. Some x)) (same_Some [] xs is)
gathered_are (None ∷ os) xs is = absurd (none-some xs is)
gathered_are (Some x ∷ os) xs is =
    let rest = some_mapped (λ ys. x ∷ ys) (all_there os) xs is in
    ap (λ zs. Some x ∷ zs) (gathered_are os rest.0 rest.1) ∙ ap (map (λ y. Some y)) rest.2

-- what holds of each that was gathered
pub gathered_each : {X Y : Type 0} (f : X → Option Y) (Q : X → Type 0) (P : Y → Type 0) → ((x : X) (y : Y) → Q x → f x ≡ Some y → P y) →
    (xs : List X) (ys : List Y) → all_there (map f xs) ≡ Some ys → AllByRecursion Q xs → AllByRecursion P ys
gathered_each {X = X} {Y = Y} f Q P fits xs ys is each = by xs ys (gathered_are (map f xs) ys is) each where
  by : (xs : List X) (ys : List Y) → map f xs ≡ map (λ y. Some y) ys → AllByRecursion Q xs → AllByRecursion P ys
  by xs [] e all = tt
  by [] (y ∷ ys) e all = absurd cc
  by (x ∷ xs) (y ∷ ys) e all =
      let first : f x ≡ Some y = cc in
      let others : map f xs ≡ map (λ z. Some z) ys = cc in
      (fits x y all.0 first, by xs ys others all.1)

-- one value of a cell more
pub gather_single : (f : ℕ → Option (List ℕ)) (ys : List ℕ) (i d : ℕ) (vs : List ℕ) (v : ℕ) → i < length ys →
    f (get_or ys i d) ≡ Some (v ∷ []) → all_there (map f (take i ys)) ≡ Some (map (λ w. w ∷ []) vs) →
    all_there (map f (take (i + 1) ys)) ≡ Some (map (λ w. w ∷ []) (vs ++ v ∷ []))
gather_single f ys i d vs v within is h =
    gather_more f ys i d (map (λ w. w ∷ []) vs) (v ∷ []) within is h ∙ ap (λ zs. Some zs) (sym (map-append (λ w. w ∷ []) vs (v ∷ [])))

-- a cell with its value is added at the end
pub cell_added : (es after : List (ℕ × ℕ)) (cells values : List ℕ) (i d e : ℕ) → i < length cells → i < length values →
    after ≡ es ++ (get_or cells i d, get_or values i e) ∷ [] →
    (map (λ p. p.0) es ≡ take i cells) × (map (λ p. p.1) es ≡ take i values) →
    (map (λ p. p.0) after ≡ take (i + 1) cells) × (map (λ p. p.1) after ≡ take (i + 1) values)
cell_added es after cells values i d e below within is h = (
  ap (map (λ p. p.0)) is ∙ map-append (λ p. p.0) es ((get_or cells i d, get_or values i e) ∷ [])
      ∙ ap (λ xs. xs ++ get_or cells i d ∷ []) h.0 ∙ sym (take_more cells i d below),
  ap (map (λ p. p.1)) is ∙ map-append (λ p. p.1) es ((get_or cells i d, get_or values i e) ∷ [])
      ∙ ap (λ xs. xs ++ get_or values i e ∷ []) h.1 ∙ sym (take_more values i e within),
)
