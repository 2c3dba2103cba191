-- The surface terms so far, and then those that are left.
use Rattle.std.proofs.Common.{◌≡◌, ◌+◌}
use Rattle.program_listing.specs.Listing.{count_of_surfaces, surface_trees}
use Rattle.flow_program.proofs.uses.count_of_surfaces.Given as goal

abbrev pub invariant-loop-rest : goal.invariant-loop-rest
invariant-loop-rest l = l.count + count_of_surfaces (surface_trees l.rest) ≡ count_of_surfaces (surface_trees l.fn.surfaces)
