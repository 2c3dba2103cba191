-- The list that is left is no deeper than the one that was handed in.
use Rattle.std.proofs.Common.{◌≤◌}
use Rattle.interp_core.specs.declared.free_terms.FreeList.{size-FreeList}
use Rattle.interp_core.proofs.+free_terms.Given as goal

abbrev pub invariant-free_terms::FreeList::drop-loop-self : goal.invariant-free_terms::FreeList::drop-loop-self
invariant-free_terms::FreeList::drop-loop-self l = size-FreeList l.self ≤ size-FreeList l.fn.self
