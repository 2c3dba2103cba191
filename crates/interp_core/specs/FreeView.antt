-- Free terms without where they lie in memory.
use Rattle.std.specs.Prelude.{List, [], ◌∷◌}
use Rattle.tsl_terms.specs.FreeTree.{FreeTree, leaf_at, applied, FreeTrees, no_free, more_free}
use Rattle.interp_core.specs.declared.free_terms.FreeTerm.{FreeTerm}
use Rattle.interp_core.specs.declared.free_terms.FreeTerm.TheVariants.{Leaf, Apply}
use Rattle.interp_core.specs.declared.free_terms.FreeList.{FreeList}
use Rattle.interp_core.specs.declared.free_terms.FreeList.TheVariants.{Empty, More'}

-- the list of these free terms
abbrev pub frees_of : List FreeTree → FreeTrees
frees_of [] = no_free
frees_of (x ∷ xs) = more_free x (frees_of xs)

-- the tree of a free term, and of a list of free terms
abbrev mutual
  pub free_tree : FreeTerm → FreeTree
  free_tree (Leaf s step) = leaf_at s step
  free_tree (Apply f arguments) = applied f (free_trees arguments)

  pub free_trees : FreeList → FreeTrees
  free_trees Empty = no_free
  free_trees (More' p head q rest) = more_free (free_tree head) (free_trees rest)
