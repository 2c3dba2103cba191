-- Internal: only private functions of this crate use these words.
-- Rows of labels of what terms unfold to.
use Rattle.std.specs.Prelude.{◌≡◌, ℕ, suc, List, length, Some, slice_get}
use Rattle.tsl_terms.specs.TermTree.{TermTree, terms_of}
use Rattle.tsl_terms.specs.WindowTree.{ListedTree}
use Rattle.term_congruence.specs.internal.Shapes.{ShapeTree, AreLabelsOf, all_unfolded_by}

-- a row for each of so many steps
pub record AreStepRows (updates : List ListedTree) (terms : List TermTree) (shapes : List ShapeTree) (rows : List (List ℕ))
    (count : ℕ) : Type 0 where
  pub counted : length rows ≡ count
  pub each : (step : ℕ) (row : List ℕ) → slice_get rows step ≡ Some row →
      AreLabelsOf shapes (all_unfolded_by updates step (terms_of terms)) row

-- and for each step up to a last one
abbrev pub AreLabelRows : List ListedTree → List TermTree → List ShapeTree → List (List ℕ) → ℕ → Type 0
AreLabelRows updates terms shapes rows last = AreStepRows updates terms shapes rows (suc last)
