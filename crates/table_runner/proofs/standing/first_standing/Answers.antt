use Rattle.std.proofs.Common.{◌≡◌, ◌∙◌, ◌++◌, length, refl, sym, ap, subst}
use Rattle.base_library.specs.Numbers.{IsDistinct}
use Rattle.table_runner.proofs.Stepping.{first_there, first_paired, stands_first, row_seen, read_distinct}
use Rattle.table_runner.proofs.standing.first_standing.Goals as goal

pub first_values-requires : goal.first_values-requires
first_values-requires g c = record { had = first_there g.J.Algebra.seen _ _ _ c.requires.can _ c.as_slice-3.ensures }

pub invariant_of-result : goal.invariant_of-result
invariant_of-result g c =
    let signals : c.in_ok-signals.signals ≡ c.args.program.now.inputs ++ c.args.program.now.cells =
    c.in_ok-signals.ensures ∙ (λ i. c.as_slice.ensures i ++ c.as_slice-2.ensures i) in
    record {
      distinct = subst IsDistinct (sym signals) (read_distinct c.args.program.now);
      paired =
          ap length signals
          ∙ first_paired g.J.Algebra.seen _ _ _ c.requires.can _ c.as_slice-3.ensures _ c.in_ok-values.values.items
          (row_seen g.J.Algebra.seen c.args.inputs.now 0 _ c.row_at.ensures) c.in_ok-values.ensures
          ∙ sym (ap length c.from_vec.ensures);
    }

pub returns : goal.returns
returns g c =
    let signals : c.in_ok-signals.signals ≡ c.args.program.now.inputs ++ c.args.program.now.cells =
    c.in_ok-signals.ensures ∙ (λ i. c.as_slice.ensures i ++ c.as_slice-2.ensures i) in
    stands_first g.J.Algebra.seen _ _ _ c.requires.can _ c.as_slice-3.ensures _ c.in_ok-values.values.items
    (row_seen g.J.Algebra.seen c.args.inputs.now 0 _ c.row_at.ensures) c.in_ok-values.ensures _ refl refl signals c.from_vec.ensures
