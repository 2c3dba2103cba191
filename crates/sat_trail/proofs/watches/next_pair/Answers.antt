use Rattle.std.proofs.Common.{arith}
use Rattle.std.proofs.lemmas.Option.{slice_get_within}
use Rattle.sat_trail.proofs.Soundness.{over_named, over_literal}
use Rattle.sat_trail.proofs.Visits.{of_clause}
use Rattle.sat_trail.proofs.Moved.{spare_over, next_found}
use Rattle.sat_trail.proofs.watches.next_pair.Goals as goal

pub is_free-requires : goal.is_free-requires
is_free-requires c = record { over = spare_over c.args.stack.now c.requires.sound c.args.number c.args.pair.now c.requires.pair }

pub clause-literals-requires-clause-given : goal.clause-literals-requires-clause-given
clause-literals-requires-clause-given c = slice_get_within c.args.stack.now.clauses c.args.number c.requires.pair.clause c.requires.pair.named

pub is_false-requires : goal.is_false-requires
is_false-requires c = over_literal c.args.stack.now c.requires.sound c.args.number c.requires.pair.clause c.other-spare.result c.requires.pair.named
    (of_clause c.requires.pair.is c.other-spare.ensures.of)

pub free_position-requires : goal.free_position-requires
free_position-requires c = record {
  over = over_named c.args.stack.now c.requires.sound c.args.number c.clause-literals.result.now c.clause-literals.ensures.value;
}

pub offset_bounds-literals-position : goal.offset_bounds-literals-position
offset_bounds-literals-position c = omega (
  arith,
  slice_get_within c.clause-literals.result.now c.in_ok-position.position c.in_ok-position.ensures.literal c.in_ok-position.ensures.there,
)

pub bounds-literals-position : goal.bounds-literals-position
bounds-literals-position c = slice_get_within c.clause-literals.result.now c.in_ok-position.position
    c.in_ok-position.ensures.literal c.in_ok-position.ensures.there

pub returns : goal.returns
returns c = next_found c.requires.pair c.requires.of c.other-spare.ensures.of c.clause-literals.ensures.value c.in_ok-position.ensures c.index-literals-position.is
