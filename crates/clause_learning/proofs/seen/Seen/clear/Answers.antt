use Rattle.std.proofs.Common.{◌<◌, false, refl, arith}
use Rattle.base_library.proofs.Places.{slice_get_some}
use Rattle.sat_trail.proofs.Soundness.{length_entries}
use Rattle.std.specs.Vec.{with_item}
use Rattle.clause_learning.proofs.SeenEntries.{clears, clears_count}
use Rattle.clause_learning.proofs.seen.Seen.clear.Goals as goal

pub index_mut-requires : goal.index_mut-requires
index_mut-requires c =
    let t = c.args.trail.now in
    omega (
      arith,
      c.requires.entry.within,
      length_entries t.variables t.clauses t.entries c.requires.trail.sound.stand,
      c.requires.entry.all.one_each,
      c.args.self.now.flags.ok.0,
    )

pub overflow_sub-self : goal.overflow_sub-self
overflow_sub-self c =
    let t = c.args.trail.now in
    let m = c.args.self.now in
    let r = slice_get_some t.entries c.args.place c.requires.entry.within in
    let room : c.args.place < t.variables = omega
    (arith, c.requires.entry.within, length_entries t.variables t.clauses t.entries c.requires.trail.sound.stand) in
    omega (
      arith,
      clears_count t m (record m { flags = with_item m.flags c.args.place false }) c.args.place r.0 c.is_present.result c.from.result
          c.requires.entry.all room r.1 (c.is_present.ensures r.0 r.1) c.from.ensures c.requires.entry.here refl,
    )

pub returns : goal.returns
returns c =
    let t = c.args.trail.now in
    let m = c.args.self.now in
    let r = slice_get_some t.entries c.args.place c.requires.entry.within in
    let room : c.args.place < t.variables = omega
    (arith, c.requires.entry.within, length_entries t.variables t.clauses t.entries c.requires.trail.sound.stand) in
    clears t m _ c.args.place r.0 c.is_present.result c.from.result c.requires.entry.all room r.1 (c.is_present.ensures r.0 r.1)
    c.from.ensures c.requires.entry.here refl refl refl refl
