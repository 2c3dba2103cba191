-- The list that is left is no deeper than the one that was handed in.
use Rattle.std.proofs.Common.{◌≤◌}
use Rattle.program_listing.specs.declared.listing.SurfaceTermList.{size-SurfaceTermList}
use Rattle.program_listing.proofs.+surfaces.Given as goal

abbrev pub invariant-listing::SurfaceTermList::drop-loop-self : goal.invariant-listing::SurfaceTermList::drop-loop-self
invariant-listing::SurfaceTermList::drop-loop-self l = size-SurfaceTermList l.self ≤ size-SurfaceTermList l.fn.self
