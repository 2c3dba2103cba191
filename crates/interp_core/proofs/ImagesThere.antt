-- Where each function has a value on all arguments, a free term has an image where its leaves have values.
use Rattle.std.proofs.Common.{◌≡◌, ◌∙◌, ℕ, ◌<◌, true, List, ◌∷◌, length, Option, refl, ap}
use Rattle.std.specs.Prelude.{option_map, option_and_then, IsSome, is_some, nat_lt}
use Rattle.std.specs.List.{AllByRecursion}
use Rattle.std.proofs.lemmas.Bool.{and_parts, ltb-true}
use Rattle.base_library.specs.Numbers.{is_among}
use Rattle.base_library.proofs.Each.{each_at}
use Rattle.base_library.proofs.Options.{then_there, map_there}
use Rattle.base_library.proofs.Places.{slice_get_some}
use Rattle.tsl_terms.specs.FreeTree.{FreeTree, leaf_at, applied, FreeTrees, no_free, more_free}
use Rattle.tsl_terms.specs.Value.{Meanings}
use Rattle.interp_core.specs.declared.leaves.Leaves.{Leaves}
use Rattle.interp_core.specs.LeafValue.{leaf_value}
use Rattle.interp_core.specs.Image.{image_of, images_of, row_value}
use Rattle.interp_core.specs.internal.LeavesWithin.{leaves_within, all_leaves_within}
use Rattle.interp_core.proofs.Total.{IsTotal, leaf_there}

-- rows for the same signals have a value for each of them
pub row_there : {V S : Type 0} (seen : V → S) (rows : List (Leaves V)) (ids : List ℕ) →
    AllByRecursion (λ (leaves : Leaves V). leaves.signals ≡ ids) rows → (s step : ℕ) → is_among ids s ≡ true → step < length rows →
    IsSome (row_value seen rows s step)
row_there seen rows ids each s step among within =
    let row = slice_get_some rows step within in
    ap (λ o. is_some (option_and_then (λ leaves. leaf_value seen leaves s) o)) row.1
    ∙ leaf_there seen row.0 ids (each_at _ rows step row.0 each row.1) s among

module _ {V : Type 0} (meanings : Meanings V) (total : IsTotal meanings) (ids : List ℕ) (limit : ℕ) (at : ℕ → ℕ → Option V)
    (known : (s step : ℕ) → is_among ids s ≡ true → step < limit → IsSome (at s step)) where
  mutual
    pub image_there : (x : FreeTree) → leaves_within ids limit x ≡ true → IsSome (image_of meanings at x)
    image_there (leaf_at s step) within =
        let parts = and_parts (is_among ids s) (nat_lt step limit) within in
        known s step parts.0 (ltb-true step limit parts.1)
    image_there (applied f xs) within =
        then_there (meanings.function f) (images_of meanings at xs) (images_there xs within) (total.function f)

    images_there : (xs : FreeTrees) → all_leaves_within ids limit xs ≡ true → IsSome (images_of meanings at xs)
    images_there no_free within = refl
    images_there (more_free x xs) within =
        let parts = and_parts (leaves_within ids limit x) (all_leaves_within ids limit xs) within in
        then_there (λ v. option_map (λ vs. v ∷ vs) (images_of meanings at xs)) (image_of meanings at x) (image_there x parts.0)
        (λ v. map_there (λ vs. v ∷ vs) (images_of meanings at xs) (images_there xs parts.1))
