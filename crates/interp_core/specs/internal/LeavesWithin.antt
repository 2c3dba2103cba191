-- Internal: only private functions of this crate use these words.
-- Free terms whose leaves are signals of a list, at steps below a limit.
use Rattle.std.specs.Prelude.{ℕ, Bool, true, ◌&&◌, List, nat_lt}
use Rattle.base_library.specs.Numbers.{is_among}
use Rattle.tsl_terms.specs.FreeTree.{FreeTree, leaf_at, applied, FreeTrees, no_free, more_free}

abbrev mutual
  pub leaves_within : List ℕ → ℕ → FreeTree → Bool
  leaves_within ids limit (leaf_at s step) = is_among ids s && nat_lt step limit
  leaves_within ids limit (applied f xs) = all_leaves_within ids limit xs

  pub all_leaves_within : List ℕ → ℕ → FreeTrees → Bool
  all_leaves_within ids limit no_free = true
  all_leaves_within ids limit (more_free x xs) = leaves_within ids limit x && all_leaves_within ids limit xs
