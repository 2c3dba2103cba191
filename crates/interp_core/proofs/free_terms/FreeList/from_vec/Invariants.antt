use Rattle.std.proofs.Common.{◌≡◌, map, vec_len}
use Rattle.base_library.proofs.Lists.{with_front}
use Rattle.tsl_terms.specs.FreeTree.{more_free}
use Rattle.interp_core.specs.FreeView.{free_tree, free_trees, frees_of}
use Rattle.interp_core.proofs.free_terms.FreeList.from_vec.Given as goal

-- the free terms that are left, and then those of the list
abbrev pub invariant-loop-term : goal.invariant-loop-term
invariant-loop-term l =
    with_front more_free (map free_tree l.terms.items) (free_trees l.list) ≡ frees_of (map free_tree l.fn.terms.items)

abbrev pub decreases-loop-term : goal.decreases-loop-term
decreases-loop-term l = vec_len l.terms
