-- Lists that are made of others member by member: what each member gives, all of them give.
use Rattle.std.proofs.Common.{◌≡◌, ℕ, Bool, true, List, [], ◌∷◌, ◌<◌, length, get_or, map, refl}
use Rattle.std.specs.Prelude.{Option, Some}
use Rattle.std.specs.List.{list_all, AllByRecursion}
use Rattle.base_library.specs.Options.{all_there}
use Rattle.base_library.proofs.Gathered.{all_there_next}
use Rattle.base_library.proofs.Passes.{list_all_from_each, map_passes_within}

-- what all images pass, that of a member passes
pub image_passes : {X Y : Type 0} (f : X → Y) (p : Y → Bool) (xs : List X) {i : ℕ} {x : X} → list_all p (map f xs) ≡ true →
    i < length xs → x ≡ get_or xs i x → p (f x) ≡ true
image_passes f p xs {i = i} {x = x} all within is = rw is (map_passes_within f p xs i x all within)

module _ {X Y : Type 0} (Good : X → Type 0) (make : X → Y) where
  pub all_made : (f : X → Option Y) → ((x : X) → Good x → f x ≡ Some (make x)) → (xs : List X) → AllByRecursion Good xs →
      all_there (map f xs) ≡ Some (map make xs)
  all_made f is [] all = refl
  all_made f is (x ∷ xs) all = all_there_next f x xs (make x) (map make xs) (is x all.0) (all_made f is xs all.1)

  pub each_made : (P : Y → Type 0) → ((x : X) → Good x → P (make x)) → (xs : List X) → AllByRecursion Good xs →
      AllByRecursion P (map make xs)
  each_made P is [] all = tt
  each_made P is (x ∷ xs) all = (is x all.0, each_made P is xs all.1)

  pub all_pass : (q : Y → Bool) → ((x : X) → Good x → q (make x) ≡ true) → (xs : List X) → AllByRecursion Good xs →
      list_all q (map make xs) ≡ true
  all_pass q is xs all = list_all_from_each q (map make xs) (each_made (λ y. q y ≡ true) is xs all)
