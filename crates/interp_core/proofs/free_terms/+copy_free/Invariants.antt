use Rattle.std.proofs.Common.{◌≡◌, ◌≤◌, map}
use Rattle.base_library.proofs.Lists.{with_front}
use Rattle.tsl_terms.specs.FreeTree.{more_free}
use Rattle.interp_core.specs.declared.free_terms.FreeList.{size-FreeList}
use Rattle.interp_core.specs.FreeView.{free_tree, free_trees}
use Rattle.interp_core.proofs.free_terms.+copy_free.Given as goal

-- the copies, and then the free terms that are left
abbrev pub invariant-copy_frees-loop-rest : goal.invariant-copy_frees-loop-rest
invariant-copy_frees-loop-rest l =
    (with_front more_free (map free_tree l.copies.items) (free_trees l.rest) ≡ free_trees l.fn.frees) ×
    (size-FreeList l.rest ≤ size-FreeList l.initial.rest)
