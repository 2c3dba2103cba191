use Rattle.std.proofs.Common.{arith}
use Rattle.std.proofs.lemmas.Option.{slice_get_within}
use Rattle.sat_trail.proofs.Soundness.{over_named}
use Rattle.sat_trail.proofs.Looks.{conflict_found, unit_found, open_found}
use Rattle.sat_trail.proofs.watches.status_of.Goals as goal

pub first_free-requires : goal.first_free-requires
first_free-requires c = record {
  over = over_named c.args.stack.now c.requires.sound c.args.number c.clause-literals.result.now c.clause-literals.ensures.value;
}

pub returns-in_default : goal.returns-in_default
returns-in_default c = conflict_found c.clause-literals.ensures.value c.in_default.ensures

pub offset_bounds-literals-place : goal.offset_bounds-literals-place
offset_bounds-literals-place c = omega
    (arith, slice_get_within c.clause-literals.result.now c.in-Some.place c.in-Some.ensures.literal c.in-Some.ensures.there)

pub bounds-literals-place : goal.bounds-literals-place
bounds-literals-place c = slice_get_within c.clause-literals.result.now c.in-Some.place c.in-Some.ensures.literal c.in-Some.ensures.there

pub free_between-requires-clause-over : goal.free_between-requires-clause-over
free_between-requires-clause-over c = over_named c.args.stack.now c.requires.sound c.args.number
    c.clause-literals.result.now c.clause-literals.ensures.value

pub returns-in-Some-free_between : goal.returns-in-Some-free_between
returns-in-Some-free_between c = open_found c.clause-literals.ensures.value c.in-Some.ensures
    c.index-literals-place.is c.in-Some-free_between.ensures c.index-literals-position.is

pub returns-in-None : goal.returns-in-None
returns-in-None c = unit_found c.clause-literals.ensures.value
    c.clause-literals.ensures.increasing c.in-Some.ensures
    c.index-literals-place.is c.in-None.ensures
