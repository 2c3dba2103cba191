-- What terms unfold to at a step, where updates are listed with offsets. A signal at a step is its leaf, but for a cell whose
-- update is listed at the offset before: that is what the update's term unfolds to there.
-- Source: Finkbeiner, Klein, Piskac, Santolucito: Temporal Stream Logic: Synthesis Beyond the Bools (CAV 2019), the refinement of
-- the underapproximation.
use Rattle.std.specs.Prelude.{ℕ, zero, suc, ◌==◌, ◌&&◌, List, Option, Some, None, find, option_map, if◌then◌else◌}
use Rattle.base_library.specs.Numbers.{is_among}
use Rattle.tsl_terms.specs.TermTree.{TermTree, signal, apply, TermTrees, no_terms, more_terms}
use Rattle.tsl_terms.specs.WindowTree.{ListedTree}
use Rattle.tsl_terms.specs.FreeTree.{FreeTree, leaf_at, applied, FreeTrees, no_free, more_free}

-- a term with a free term in place of each signal
abbrev mutual
  pub with_leaves : (ℕ → FreeTree) → TermTree → FreeTree
  with_leaves at (signal s) = at s
  with_leaves at (apply f arguments) = applied f (all_with_leaves at arguments)

  pub all_with_leaves : (ℕ → FreeTree) → TermTrees → FreeTrees
  all_with_leaves at no_terms = no_free
  all_with_leaves at (more_terms t ts) = more_free (with_leaves at t) (all_with_leaves at ts)

-- a signal at a step: the term that it takes at the step before, where it takes one
abbrev pub leaf_after : (ℕ → FreeTree) → ℕ → ℕ → Option TermTree → FreeTree
leaf_after before step s None = leaf_at s step
leaf_after before step s (Some term) = with_leaves before term

-- what a signal unfolds to at a step, where a function says which term a signal takes at a step
abbrev pub signal_unfolded : (ℕ → ℕ → Option TermTree) → ℕ → ℕ → FreeTree
signal_unfolded taken zero s = leaf_at s 0
signal_unfolded taken (suc t) s = leaf_after (signal_unfolded taken t) (suc t) s (taken t s)

-- the term that is listed for a signal at an offset: that of the first such update
abbrev pub term_listed : List ListedTree → ℕ → ℕ → Option TermTree
term_listed updates offset s = option_map (λ u. u.term) (find (λ u. (u.signal == s) && (u.offset == offset)) updates)

-- the same for a cell, and none for any other signal
abbrev pub term_taken_by_cell : List ℕ → List ListedTree → ℕ → ℕ → Option TermTree
term_taken_by_cell cells updates offset s = if is_among cells s then term_listed updates offset s else None

-- what a term, and a list of terms, unfolds to at a step
abbrev pub unfolded : List ℕ → List ListedTree → ℕ → TermTree → FreeTree
unfolded cells updates step term = with_leaves (signal_unfolded (term_taken_by_cell cells updates) step) term

abbrev pub all_unfolded : List ℕ → List ListedTree → ℕ → TermTrees → FreeTrees
all_unfolded cells updates step terms = all_with_leaves (signal_unfolded (term_taken_by_cell cells updates) step) terms
