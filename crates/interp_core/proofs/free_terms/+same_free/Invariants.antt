use Rattle.std.proofs.Common.{◌≡◌, ◌≤◌}
use Rattle.interp_core.specs.declared.free_terms.FreeList.{size-FreeList}
use Rattle.interp_core.specs.FreeView.{free_trees}
use Rattle.tsl_terms.specs.SameFree.{same_frees}
use Rattle.interp_core.proofs.free_terms.+same_free.Given as goal

-- the lists are equal where what is left of them is
abbrev pub invariant-all_equal-loop-left : goal.invariant-all_equal-loop-left
invariant-all_equal-loop-left l =
    (same_frees (free_trees l.left) (free_trees l.right) ≡ same_frees (free_trees l.fn.a) (free_trees l.fn.b))
    × (size-FreeList l.left ≤ size-FreeList l.initial.left)
