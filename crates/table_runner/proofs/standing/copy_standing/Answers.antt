use Rattle.std.proofs.Common.{◌≡◌, ◌∙◌, length, sym, ap, subst, arith}
use Rattle.std.proofs.lemmas.List.{length-map}
use Rattle.base_library.specs.Numbers.{IsDistinct}
use Rattle.table_runner.proofs.standing.copy_standing.Goals as goal

pub invariant_of-result : goal.invariant_of-result
invariant_of-result g c =
    let signals : c.in_ok-signals.signals ≡ c.args.standing.now.leaves.signals = c.in_ok-signals.ensures ∙ c.as_slice.ensures in
    record {
      distinct = subst IsDistinct (sym signals) c.args.standing.now.leaves.distinct;
      paired =
          omega (
            arith,
            ap length signals,
            c.args.standing.now.leaves.paired,
            ap length c.in_ok-values.ensures,
            length-map c.in_ok-values.values.items g.A.Algebra.seen,
            length-map c.as_slice-2.result.now g.A.Algebra.seen,
            ap length c.as_slice-2.ensures,
            ap length c.from_vec.ensures,
          );
    }
