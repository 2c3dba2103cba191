use Rattle.std.proofs.Common.{◌<◌, ◌||◌, ℕ, true, Option, refl, arith, sym, ap, ◌∙◌}
use Rattle.std.proofs.lemmas.Result.{on_ok_weaker}
use Rattle.base_library.proofs.Places.{slice_get_some}
use Rattle.sat_trail.proofs.Soundness.{length_entries}
use Rattle.clause_learning.specs.declared.seen.Seen.{Seen}
use Rattle.std.specs.Vec.{with_item}
use Rattle.clause_learning.specs.ConflictAnalysis.{is_seen, stands_at}
use Rattle.clause_learning.proofs.SeenEntries.{adds, adds_count, adds_flags, count_fits, place_within, seen_already}
use Rattle.clause_learning.proofs.seen.Seen.see.Goals as goal

pub is_seen-requires : goal.is_seen-requires
is_seen-requires c =
    let t = c.args.trail.now in
    let p = place_within t.entries c.variable.result c.args.literal.index c.in-Some.place c.variable.ensures.value c.in-Some.ensures in
    omega (arith, p.1, length_entries t.variables t.clauses t.entries c.requires.trail.sound.stand, c.requires.seen.one_each)

pub returns-then-is_seen-clause-entries_seen : goal.returns-then-is_seen-clause-entries_seen
returns-then-is_seen-clause-entries_seen c =
    let t = c.args.trail.now in
    let p = place_within t.entries c.variable.result c.args.literal.index c.in-Some.place c.variable.ensures.value c.in-Some.ensures in
    seen_already t.entries c.args.self.now c.args.literal.index c.in-Some.place p.0 (sym c.is_seen.ensures ∙ c.if-is_seen.true)

pub index_mut-requires : goal.index_mut-requires
index_mut-requires c =
    let t = c.args.trail.now in
    let p = place_within t.entries c.variable.result c.args.literal.index c.in-Some.place c.variable.ensures.value c.in-Some.ensures in
    omega (
      arith,
      p.1,
      length_entries t.variables t.clauses t.entries c.requires.trail.sound.stand,
      c.requires.seen.one_each,
      c.args.self.now.flags.ok.0,
    )

pub is_present-requires-clause-within : goal.is_present-requires-clause-within
is_present-requires-clause-within c = (place_within c.args.trail.now.entries c.variable.result c.args.literal.index c.in-Some.place
    c.variable.ensures.value c.in-Some.ensures).1

pub note-requires-clause-within : goal.note-requires-clause-within
note-requires-clause-within c = (place_within c.args.trail.now.entries c.variable.result c.args.literal.index c.in-Some.place
    c.variable.ensures.value c.in-Some.ensures).1

pub overflow_add-self : goal.overflow_add-self
overflow_add-self c =
    let t = c.args.trail.now in
    let m = c.args.self.now in
    let p = place_within t.entries c.variable.result c.args.literal.index c.in-Some.place c.variable.ensures.value c.in-Some.ensures in
    let r = slice_get_some t.entries c.in-Some.place p.1 in
    let room : c.in-Some.place < t.variables = omega
    (arith, p.1, length_entries t.variables t.clauses t.entries c.requires.trail.sound.stand) in
    let n : Seen = record m { flags = with_item m.flags c.in-Some.place true } in
    omega (
      arith,
      adds_count t m n c.in-Some.place r.0 c.is_present.result c.from.result c.requires.seen room r.1 (c.is_present.ensures r.0 r.1)
          c.from.ensures (sym c.is_seen.ensures ∙ c.if-is_seen.false) refl,
      count_fits t c.requires.trail.sound (is_seen n),
    )

pub returns-clause-entries_seen : goal.returns-clause-entries_seen
returns-clause-entries_seen c =
    let t = c.args.trail.now in
    let m = c.args.self.now in
    let p = place_within t.entries c.variable.result c.args.literal.index c.in-Some.place c.variable.ensures.value c.in-Some.ensures in
    let r = slice_get_some t.entries c.in-Some.place p.1 in
    let room : c.in-Some.place < t.variables = omega
    (arith, p.1, length_entries t.variables t.clauses t.entries c.requires.trail.sound.stand) in
    on_ok_weaker c.note.result (λ looked j. adds_flags t m c.note.new.self c.in-Some.place r.0 c.is_present.result c.from.result
    c.requires.seen room r.1 (c.is_present.ensures r.0 r.1) c.from.ensures (sym c.is_seen.ensures ∙ c.if-is_seen.false)
    (ap (λ (n : Seen). n.flags.items) c.note.ensures.rest) j
    ∙ ap (λ (o : Option ℕ). is_seen m j || stands_at o j) (sym p.0)) c.note.ensures.looked

pub returns-clause-seen : goal.returns-clause-seen
returns-clause-seen c =
    let t = c.args.trail.now in
    let m = c.args.self.now in
    let p = place_within t.entries c.variable.result c.args.literal.index c.in-Some.place c.variable.ensures.value c.in-Some.ensures in
    let r = slice_get_some t.entries c.in-Some.place p.1 in
    let room : c.in-Some.place < t.variables = omega
    (arith, p.1, length_entries t.variables t.clauses t.entries c.requires.trail.sound.stand) in
    on_ok_weaker c.note.result (λ looked. adds t m c.note.new.self c.in-Some.place r.0 c.is_present.result c.from.result c.requires.seen room
    r.1 (c.is_present.ensures r.0 r.1) c.from.ensures (sym c.is_seen.ensures ∙ c.if-is_seen.false)
    (ap (λ (n : Seen). n.flags.items) c.note.ensures.rest)
    (ap (λ (n : Seen). n.lowest) c.note.ensures.rest ∙ c.min-self.ensures) looked
    (ap (λ (n : Seen). n.waiting) c.note.ensures.rest)) c.note.ensures.looked
