-- The uses so far, and then those of the terms that are left.
use Rattle.std.proofs.Common.{◌≡◌, ◌<◌, ◌≤◌, ◌^◌, ◌++◌, length, map}
use Rattle.std.specs.Prelude.{IsTrue}
use Rattle.program_listing.specs.declared.listing.SurfaceTermList.{size-SurfaceTermList}
use Rattle.program_listing.specs.Listing.{surface_trees}
use Rattle.program_listing.specs.internal.NamesStand.{surfaces_stand}
use Rattle.flow_program.specs.Uses.{terms_uses}
use Rattle.flow_program.specs.internal.UseView.{use_view}
use Rattle.flow_program.proofs.uses.+term_uses.Given as goal

abbrev pub invariant-add_terms-loop-rest : goal.invariant-add_terms-loop-rest
invariant-add_terms-loop-rest l = record {
  uses_are : map use_view l.list.items ++ terms_uses l.text l.line (surface_trees l.rest)
      ≡ map use_view l.fn.list.items ++ terms_uses l.text l.line (surface_trees l.fn.terms);
  stand : IsTrue (surfaces_stand l.text (surface_trees l.rest));
  few : length (terms_uses l.text l.line (surface_trees l.rest)) < 2 ^ 32;
  size : size-SurfaceTermList l.rest ≤ size-SurfaceTermList l.initial.rest;
}
