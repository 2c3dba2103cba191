-- The images of free terms: what a free term becomes where each leaf has a value.
-- Source: Baader, Nipkow: Term Rewriting and All That (1998), homomorphisms from term algebras.
use Rattle.std.specs.Prelude.{ℕ, List, [], ◌∷◌, Option, Some, option_map, option_and_then, slice_get}
use Rattle.tsl_terms.specs.FreeTree.{FreeTree, leaf_at, applied, FreeTrees, no_free, more_free}
use Rattle.tsl_terms.specs.Value.{Meanings}
use Rattle.interp_core.specs.declared.leaves.Leaves.{Leaves}
use Rattle.interp_core.specs.LeafValue.{leaf_value}

module _ {V : Type 0} where
  -- the image of a free term, where `at` gives the values of signals at steps
  abbrev mutual
    pub image_of : Meanings V → (ℕ → ℕ → Option V) → FreeTree → Option V
    image_of meanings at (leaf_at s step) = at s step
    image_of meanings at (applied f xs) = option_and_then (meanings.function f) (images_of meanings at xs)

    pub images_of : Meanings V → (ℕ → ℕ → Option V) → FreeTrees → Option (List V)
    images_of meanings at no_free = Some []
    images_of meanings at (more_free x xs) =
        option_and_then (λ v. option_map (λ vs. v ∷ vs) (images_of meanings at xs)) (image_of meanings at x)

-- what is seen of the value of a signal at a step, where there is a row for each step from 0 on
abbrev pub row_value : {V S : Type 0} → (V → S) → List (Leaves V) → ℕ → ℕ → Option S
row_value seen rows s step = option_and_then (λ leaves. leaf_value seen leaves s) (slice_get rows step)
