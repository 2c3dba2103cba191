-- The key with what is left is the key at the start with all.
use Rattle.std.proofs.Common.{◌≡◌, ◌≤◌, ◌++◌}
use Rattle.std.specs.Prelude.{IsTrue}
use Rattle.program_listing.specs.declared.listing.SurfaceTermList.{size-SurfaceTermList}
use Rattle.program_listing.specs.Listing.{surface_trees}
use Rattle.program_listing.specs.internal.NamesStand.{surfaces_stand}
use Rattle.flow_program.specs.internal.EqualityKeys.{surfaces_key}
use Rattle.flow_program.proofs.equalities.+put_surfaces.Given as goal

abbrev pub invariant-put_surfaces-loop-left : goal.invariant-put_surfaces-loop-left
invariant-put_surfaces-loop-left l = record {
  whole : l.key.items ++ surfaces_key l.text (surface_trees l.left) ≡ l.fn.key.items ++ surfaces_key l.text (surface_trees l.fn.surfaces);
  stand : IsTrue (surfaces_stand l.text (surface_trees l.left));
  size : size-SurfaceTermList l.left ≤ size-SurfaceTermList l.initial.left;
}
