-- The terms so far, and then those that are left.
use Rattle.std.proofs.Common.{◌≡◌, ◌≤◌, map}
use Rattle.std.specs.Prelude.{IsTrue}
use Rattle.tsl_terms.specs.TermTree.{term_tree}
use Rattle.program_listing.specs.declared.listing.SurfaceTermList.{size-SurfaceTermList}
use Rattle.program_listing.specs.Listing.{surface_trees}
use Rattle.program_listing.specs.internal.NamesStand.{surfaces_stand}
use Rattle.flow_program.specs.internal.Numbering.{numbered_terms}
use Rattle.tsl_terms.proofs.NumberedTerms.{numbered_front}
use Rattle.flow_program.proofs.numbering.+number_terms.Given as goal

abbrev pub invariant-numbered_terms-loop-rest : goal.invariant-numbered_terms-loop-rest
invariant-numbered_terms-loop-rest l = record {
  numbered : numbered_front (map term_tree l.trees.items) (numbered_terms l.names l.text (surface_trees l.rest))
      ≡ numbered_terms l.names l.text (surface_trees l.fn.terms);
  stand : IsTrue (surfaces_stand l.text (surface_trees l.rest));
  size : size-SurfaceTermList l.rest ≤ size-SurfaceTermList l.initial.rest;
}
