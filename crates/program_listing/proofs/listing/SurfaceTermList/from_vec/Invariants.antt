use Rattle.std.proofs.Common.{◌≡◌, map, vec_len}
use Rattle.base_library.proofs.Lists.{with_front}
use Rattle.program_listing.specs.ListingTree.{more_surfaces, surface_tree, surface_trees}
use Rattle.program_listing.specs.internal.LineReading.{surfaces_of}
use Rattle.program_listing.proofs.listing.SurfaceTermList.from_vec.Given as goal

-- the surface terms that are left, and then those of the list
abbrev pub invariant-loop-surface : goal.invariant-loop-surface
invariant-loop-surface l =
    with_front more_surfaces (map surface_tree l.surfaces.items) (surface_trees l.list) ≡ surfaces_of (map surface_tree l.fn.surfaces.items)

abbrev pub decreases-loop-surface : goal.decreases-loop-surface
decreases-loop-surface l = vec_len l.surfaces
