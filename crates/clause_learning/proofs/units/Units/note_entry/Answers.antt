use Rattle.std.proofs.Common.{◌∙◌, arith, inr}
use Rattle.std.proofs.lemmas.Result.{on_ok_weaker}
use Rattle.clause_learning.proofs.Noting.{entry_over, reason_given, reason_has}
use Rattle.clause_learning.proofs.units.Units.note_entry.Goals as goal

pub number_of-requires-clause-over : goal.number_of-requires-clause-over
number_of-requires-clause-over c =
    entry_over c.args.trail.now c.requires.ready.sound c.args.place c.requires.within c.set_at-literal.result c.set_at-literal.ensures

pub clause-requires-clause-given : goal.clause-requires-clause-given
clause-requires-clause-given c =
    reason_given c.args.trail.now c.requires.ready.sound c.args.place c.requires.within c.set_at-literal.result c.set_at-literal.ensures
    c.in-Some.reason c.in-Some.ensures

pub note-requires-clause-over : goal.note-requires-clause-over
note-requires-clause-over c = omega (
  arith,
  entry_over c.args.trail.now c.requires.ready.sound c.args.place c.requires.within c.set_at-literal.result c.set_at-literal.ensures,
  c.requires.ready.table.one_each,
)

pub note-requires-clause-below : goal.note-requires-clause-below
note-requires-clause-below c = omega (
  arith,
  reason_given c.args.trail.now c.requires.ready.sound c.args.place c.requires.within c.set_at-literal.result c.set_at-literal.ensures
      c.in-Some.reason c.in-Some.ensures,
  c.requires.ready.sound.few_clauses,
)

pub returns-then-is_alone-clause-units : goal.returns-then-is_alone-clause-units
returns-then-is_alone-clause-units c = record {
  one_each = c.note.ensures.one_each ∙ c.requires.ready.table.one_each;
  within = omega (
    arith,
    c.note.ensures.count,
    c.requires.ready.table.within,
    reason_given c.args.trail.now c.requires.ready.sound c.args.place c.requires.within c.set_at-literal.result c.set_at-literal.ensures
        c.in-Some.reason c.in-Some.ensures,
  );
}

pub hints_of-requires-clause-given : goal.hints_of-requires-clause-given
hints_of-requires-clause-given c =
    reason_given c.args.trail.now c.requires.ready.sound c.args.place c.requires.within c.set_at-literal.result c.set_at-literal.ensures
    c.in-Some.reason c.in-Some.ensures

pub hints_of-requires-clause-member : goal.hints_of-requires-clause-member
hints_of-requires-clause-member c =
    reason_has c.args.trail.now c.requires.ready.sound c.args.place c.requires.within c.set_at-literal.result c.set_at-literal.ensures
    c.in-Some.reason c.in-Some.ensures

pub returns-clause-noted : goal.returns-clause-noted
returns-clause-noted c = on_ok_weaker c.add.result (λ is. inr (is.noted, is.added)) c.add.ensures.added

pub returns-clause-units : goal.returns-clause-units
returns-clause-units c = on_ok_weaker c.add.result (λ is. is.table) c.add.ensures.added
