use Rattle.std.proofs.Common.{◌∙◌, map, length, refl, sym, ap, arith}
use Rattle.std.proofs.lemmas.List.{length-take-le}
use Rattle.table_runner.proofs.Stepping.{place_within, next_within, updates_long, terms_there, values_paired, stands_next, place_same}
use Rattle.table_runner.proofs.Stepping.{row_seen}
use Rattle.table_runner.proofs.standing.act.Goals as goal

pub slice_bounds-terms-end : goal.slice_bounds-terms-end
slice_bounds-terms-end g c =
    let long = updates_long c.args.program.now _ _ _ c.args.action.updates.now c.requires.does in
    sym (length-take-le c.len.result c.args.action.updates.now (omega (arith, long, c.len.ensures)))

pub row_at-requires : goal.row_at-requires
row_at-requires g c =
    next_within g.J.Algebra.seen c.args.inputs.now c.args.standing.now.place _ c.args.inputs.now.repeats
    (place_within _ _ _ _ c.requires.can c.requires.stands.0 _ c.requires.stands.1) c.next_place-place.ensures

pub next_values-requires : goal.next_values-requires
next_values-requires g c = record {
  had =
      terms_there _ _ _ _ c.requires.can c.requires.stands.0 _ c.requires.stands.1 _ c.requires.does c.args.action.updates.now c.len.result
      c.len.ensures refl;
}

pub invariant_of-standing : goal.invariant_of-standing
invariant_of-standing g c = record {
  distinct = c.args.standing.now.leaves.distinct;
  paired =
      let long = updates_long c.args.program.now _ _ _ c.args.action.updates.now c.requires.does in
      values_paired _ _ _ _ c.requires.can c.requires.stands.0 _ c.requires.stands.1 _ c.requires.does c.args.action.updates.now
      c.len.result
      (map g.J.Algebra.seen c.row_at.result.now) c.in_ok-values.values.items c.len.ensures refl
      (rw (
        place_same g.J.Algebra.seen c.args.inputs.now c.args.standing.now.place,
        ← c.next_place-place.ensures,
      ) (row_seen g.J.Algebra.seen c.args.inputs.now _ _ c.row_at.ensures))
      c.in_ok-values.ensures (omega (arith, long, c.len.ensures))
      ∙ sym (ap length c.from_vec.ensures);
}

pub returns-clause-ok : goal.returns-clause-ok
returns-clause-ok g c t stands =
    stands_next _ _ _ _ c.requires.can t _ stands _ c.requires.does c.args.action.updates.now c.len.result _ c.in_ok-values.values.items
    c.len.ensures
    refl (rw (
      place_same g.J.Algebra.seen c.args.inputs.now c.args.standing.now.place,
      ← c.next_place-place.ensures,
    ) (row_seen g.J.Algebra.seen c.args.inputs.now _ _ c.row_at.ensures))
    c.in_ok-values.ensures _ (c.next_place-place.ensures ∙ sym
    (place_same g.J.Algebra.seen c.args.inputs.now c.args.standing.now.place)) refl refl c.from_vec.ensures
