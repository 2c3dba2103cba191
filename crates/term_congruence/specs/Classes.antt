-- Labels of terms at steps, which are equal exactly where listed equalities put what the terms unfold to into one class.
use Rattle.std.specs.Prelude.{◌≡◌, ◌↔◌, ℕ, suc, List, length, map, Option, Some, slice_get, option_and_then}
use Rattle.tsl_terms.specs.TermTree.{TermTree}
use Rattle.tsl_terms.specs.WindowTree.{ListedTree, EquatedTree}
use Rattle.tsl_terms.specs.Unfolding.{unfolded}
use Rattle.tsl_terms.specs.OneClass.{AreInOneClass}
use Rattle.tsl_terms.specs.OneClass.{listed_pairs}

-- the label of a term at a step, by the term's place
abbrev pub label_at : List (List ℕ) → ℕ → ℕ → Option ℕ
label_at rows step place = option_and_then (λ row. slice_get row place) (slice_get rows step)

-- the signals that are updated
abbrev pub updated_signals : List ListedTree → List ℕ
updated_signals updates = map (λ u. u.signal) updates

-- A row for each step from 0 to the last one, with a label for each term; across steps too, two labels are equal exactly where the
-- listed equalities put what the terms unfold to into one class, the cells being the signals that are updated.
pub record IsClassTable (terms : List TermTree) (updates : List ListedTree) (equalities : List EquatedTree) (last : ℕ)
    (rows : List (List ℕ)) : Type 0 where
  pub one_row_each : length rows ≡ suc last
  pub one_label_each : (step : ℕ) (row : List ℕ) → slice_get rows step ≡ Some row → length row ≡ length terms
  pub exact : (i j k l a b : ℕ) (x y : TermTree) → slice_get terms k ≡ Some x → slice_get terms l ≡ Some y
      → label_at rows i k ≡ Some a → label_at rows j l ≡ Some b
      → (a ≡ b) ↔ AreInOneClass (listed_pairs (updated_signals updates) updates equalities)
      (unfolded (updated_signals updates) updates i x) (unfolded (updated_signals updates) updates j y)
