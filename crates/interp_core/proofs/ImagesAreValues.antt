-- Evaluating in free terms and taking the image is evaluating in the algebra.
use Rattle.std.proofs.Common.{◌≡◌, ℕ, List, [], ◌∷◌, Option, Some, None, refl, ap, ◌∙◌}
use Rattle.std.specs.Prelude.{option_map, option_and_then}
use Rattle.tsl_terms.specs.TermTree.{TermTree, signal, apply, TermTrees, no_terms, more_terms}
use Rattle.tsl_terms.specs.FreeTree.{FreeTree, FreeTrees, applied, no_free, more_free}
use Rattle.tsl_terms.specs.Unfolding.{with_leaves, all_with_leaves}
use Rattle.tsl_terms.specs.Value.{Meanings, value, values}
use Rattle.interp_core.specs.FreeView.{frees_of}
use Rattle.interp_core.specs.FreeMeanings.{free_meanings}
use Rattle.interp_core.specs.Image.{image_of, images_of}

-- the members of a list of free terms
abbrev pub frees_in : FreeTrees → List FreeTree
frees_in no_free = []
frees_in (more_free x xs) = x ∷ frees_in xs

pub frees_of_in : (xs : FreeTrees) → frees_of (frees_in xs) ≡ xs
frees_of_in no_free = refl
frees_of_in (more_free x xs) = ap (more_free x) (frees_of_in xs)

module _ (cells : List ℕ) (leaves : ℕ → FreeTree) where
  mutual
    pub free_value : (t : TermTree) → value (free_meanings cells) (λ s. Some (leaves s)) t ≡ Some (with_leaves leaves t)
    free_value (signal s) = refl
    free_value (apply f ts) = rw (free_values ts) (ap (λ xs. Some (applied f xs)) (frees_of_in (all_with_leaves leaves ts)))

    pub free_values : (ts : TermTrees) →
        values (free_meanings cells) (λ s. Some (leaves s)) ts ≡ Some (frees_in (all_with_leaves leaves ts))
    free_values no_terms = refl
    free_values (more_terms t ts) = rw (free_value t, free_values ts) refl

module _ {V : Type 0} (meanings : Meanings V) (at : ℕ → ℕ → Option V) (leaves : ℕ → FreeTree) where
  mutual
    pub image_is_value : (t : TermTree) →
        image_of meanings at (with_leaves leaves t) ≡ value meanings (λ s. image_of meanings at (leaves s)) t
    image_is_value (signal s) = refl
    image_is_value (apply f ts) = ap (option_and_then (meanings.function f)) (images_are_values ts)

    pub images_are_values : (ts : TermTrees) →
        images_of meanings at (all_with_leaves leaves ts) ≡ values meanings (λ s. image_of meanings at (leaves s)) ts
    images_are_values no_terms = refl
    images_are_values (more_terms t ts) =
        λ i. option_and_then (λ v. option_map (λ vs. v ∷ vs) (images_are_values ts i)) (image_is_value t i)

-- The same where signals may have no free term: then neither side has a value.
module _ {V : Type 0} (cells : List ℕ) (meanings : Meanings V) (rows : ℕ → ℕ → Option V) (at : ℕ → Option FreeTree) where
  abbrev image : FreeTree → Option V
  image = image_of meanings rows

  abbrev images : List FreeTree → Option (List V)
  images xs = images_of meanings rows (frees_of xs)

  abbrev imaged : ℕ → Option V
  imaged s = option_and_then image (at s)

  applied_image : (f : ℕ) (o : Option (List FreeTree)) →
      option_and_then image (option_and_then (λ xs. Some (applied f (frees_of xs))) o)
      ≡ option_and_then (meanings.function f) (option_and_then images o)
  applied_image f None = refl
  applied_image f (Some xs) = refl

  no_list : (o : Option V) → None ≡ option_and_then (λ v. option_map (λ vs. v ∷ vs) None) o
  no_list None = refl
  no_list (Some v) = refl

  more_images : (o : Option FreeTree) (os : Option (List FreeTree)) →
      option_and_then images (option_and_then (λ x. option_map (λ xs. x ∷ xs) os) o)
      ≡ option_and_then (λ v. option_map (λ vs. v ∷ vs) (option_and_then images os)) (option_and_then image o)
  more_images None os = refl
  more_images (Some x) None = no_list (image x)
  more_images (Some x) (Some xs) = refl

  mutual
    pub image_of_value : (t : TermTree) → option_and_then image (value (free_meanings cells) at t) ≡ value meanings imaged t
    image_of_value (signal s) = refl
    image_of_value (apply f ts) = applied_image f (values (free_meanings cells) at ts)
        ∙ ap (option_and_then (meanings.function f)) (images_of_values ts)

    pub images_of_values : (ts : TermTrees) → option_and_then images (values (free_meanings cells) at ts) ≡ values meanings imaged ts
    images_of_values no_terms = refl
    images_of_values (more_terms t ts) = more_images (value (free_meanings cells) at t) (values (free_meanings cells) at ts)
        ∙ (λ i. option_and_then (λ v. option_map (λ vs. v ∷ vs) (images_of_values ts i)) (image_of_value t i))
