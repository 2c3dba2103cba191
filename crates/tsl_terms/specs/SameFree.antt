-- Equality of free terms as a test: two free terms are the same where they are one tree.
use Rattle.std.specs.Prelude.{Bool, true, false, ◌&&◌, ◌==◌}
use Rattle.tsl_terms.specs.FreeTree.{FreeTree, leaf_at, applied, FreeTrees, no_free, more_free}

abbrev mutual
  pub same_free : FreeTree → FreeTree → Bool
  same_free (leaf_at r i) (leaf_at s j) = (r == s) && (i == j)
  same_free (applied f xs) (applied g ys) = (f == g) && same_frees xs ys
  same_free (leaf_at r i) (applied g ys) = false
  same_free (applied f xs) (leaf_at s j) = false

  pub same_frees : FreeTrees → FreeTrees → Bool
  same_frees no_free no_free = true
  same_frees (more_free x xs) (more_free y ys) = same_free x y && same_frees xs ys
  same_frees no_free (more_free y ys) = false
  same_frees (more_free x xs) no_free = false
