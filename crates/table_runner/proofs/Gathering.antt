-- Values that are found one by one.
use Rattle.std.proofs.Common.{◌≡◌, ◌∙◌, ℕ, ◌+◌, ◌<◌, ◌≤◌, List, [], ◌∷◌, ◌++◌, length, map, drop, get_or, Option, Some, None, refl, sym, ap}
use Rattle.std.proofs.Common.{subst}
use Rattle.std.specs.Prelude.{option_map, IsSome}
use Rattle.std.proofs.lemmas.List.{append-nil, drop_all}
use Rattle.base_library.specs.Options.{all_there}
use Rattle.base_library.proofs.Options.{map_there, some_mapped}
use Rattle.base_library.proofs.Lists.{left_at}
use Rattle.base_library.proofs.Gathered.{copied_more}

-- these values, and then those of a list, if each of those is there
abbrev pub and_then_all : {S : Type 0} → List S → List (Option S) → Option (List S)
and_then_all front rest = option_map (λ values. front ++ values) (all_there rest)

module _ {S : Type 0} where
  first_some : (front : List S) (o : Option S) (rest : List (Option S)) → IsSome (and_then_all front (o ∷ rest)) → IsSome o
  first_some front None rest some = some
  first_some front (Some x) rest some = refl

  pub all_some : (front : List S) (rest : List (Option S)) → IsSome (all_there rest) → IsSome (and_then_all front rest)
  all_some front rest some = map_there (λ values. front ++ values) (all_there rest) some

  module _ {X : Type 0} (f : X → Option S) (xs : List X) (whole : Option (List S)) where
    -- the values that were found, and then those that are left
    abbrev pub IsGathered : ℕ → List S → Type 0
    IsGathered i found = and_then_all found (map f (drop i xs)) ≡ whole

    at_item : (i : ℕ) (found : List S) (x : X) → i < length xs → x ≡ get_or xs i x → IsGathered i found →
        and_then_all found (f x ∷ map f (drop (i + 1) xs)) ≡ whole
    at_item i found x within is so_far =
        sym (ap (λ ys. and_then_all found (map f ys)) (left_at xs i x within is)) ∙ so_far

    pub item_there : (i : ℕ) (found : List S) (x : X) → i < length xs → x ≡ get_or xs i x → IsGathered i found → IsSome whole → IsSome (f x)
    item_there i found x within is so_far some =
        first_some found (f x) (map f (drop (i + 1) xs)) (subst IsSome (sym (at_item i found x within is so_far)) some)

    pub one_gathered : (i : ℕ) (found : List S) (x : X) (v : S) → i < length xs → x ≡ get_or xs i x → f x ≡ Some v →
        IsGathered i found → IsGathered (i + 1) (found ++ v ∷ [])
    one_gathered i found x v within is value so_far =
        copied_more f xs i x found (found ++ v ∷ []) v whole within refl (ap f (sym is) ∙ value) so_far

    -- the same where the value was put behind those that were found
    pub pushed_gathered : (i : ℕ) (found more : List S) (x : X) → i < length xs → x ≡ get_or xs i x →
        option_map (λ v. found ++ v ∷ []) (f x) ≡ Some more → IsGathered i found → IsGathered (i + 1) more
    pushed_gathered i found more x within is pushed so_far =
        let made = some_mapped (λ v. found ++ v ∷ []) (f x) more pushed in
        subst (IsGathered (i + 1)) made.2 (one_gathered i found x made.0 within is made.1 so_far)

    pub all_gathered : (i : ℕ) (found : List S) → length xs ≤ i → IsGathered i found → whole ≡ Some found
    all_gathered i found past so_far =
        sym so_far ∙ ap (λ ys. and_then_all found (map f ys)) (drop_all i xs past) ∙ ap Some (append-nil found)
