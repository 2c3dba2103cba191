use Rattle.std.proofs.Common.{◌≡◌, ◌∙◌, ◌++◌, map, ap, sym, subst}
use Rattle.base_library.specs.Numbers.{IsDistinct}
use Rattle.base_library.proofs.Numbers.{distinct_front}
use Rattle.tsl_meaning.proofs.LeafValues.{as_many, leaf_values}
use Rattle.tsl_meaning.proofs.leaves.leaves_at.Goals as goal

pub invariant_of-result : goal.invariant_of-result
invariant_of-result g c =
    let signals : c.from_vec.result ≡ c.args.run.now.inputs ++ c.args.run.now.cells =
    c.from_vec.ensures ∙ c.in_ok-extend_from_slice.ensures.items
    ∙ (λ i. (c.in_ok-signals.ensures.items ∙ c.as_slice.ensures) i ++ c.as_slice-2.ensures i) in
    let values : map g.J.Algebra.seen c.from_vec-2.result
    ≡ map g.J.Algebra.seen c.args.position.now.row ++ map g.J.Algebra.seen c.args.position.now.cells =
    ap (map g.J.Algebra.seen) c.from_vec-2.ensures ∙ c.in_ok-add_copies-2.ensures
    ∙ (λ i. (c.in_ok-add_copies.ensures ∙ (λ k. map g.J.Algebra.seen (c.new-values.ensures.items k)
    ++ map g.J.Algebra.seen (c.as_slice-3.ensures k))) i
    ++ map g.J.Algebra.seen (c.as_slice-4.ensures i)) in
    record {
      distinct = subst IsDistinct (sym signals)
          (distinct_front (c.args.run.now.inputs ++ c.args.run.now.cells) c.args.run.now.outputs c.args.run.now.signals_distinct);
      paired = as_many g.J.Algebra.seen c.from_vec.result c.args.run.now.inputs c.args.run.now.cells c.from_vec-2.result
          c.args.position.now.row c.args.position.now.cells signals values c.requires.row c.requires.cells;
    }

pub returns : goal.returns
returns g c =
    let signals : c.from_vec.result ≡ c.args.run.now.inputs ++ c.args.run.now.cells =
    c.from_vec.ensures ∙ c.in_ok-extend_from_slice.ensures.items
    ∙ (λ i. (c.in_ok-signals.ensures.items ∙ c.as_slice.ensures) i ++ c.as_slice-2.ensures i) in
    let values : map g.J.Algebra.seen c.from_vec-2.result
    ≡ map g.J.Algebra.seen c.args.position.now.row ++ map g.J.Algebra.seen c.args.position.now.cells =
    ap (map g.J.Algebra.seen) c.from_vec-2.ensures ∙ c.in_ok-add_copies-2.ensures
    ∙ (λ i. (c.in_ok-add_copies.ensures ∙ (λ k. map g.J.Algebra.seen (c.new-values.ensures.items k)
    ++ map g.J.Algebra.seen (c.as_slice-3.ensures k))) i
    ++ map g.J.Algebra.seen (c.as_slice-4.ensures i)) in
    λ i s. leaf_values g.J.Algebra.seen c.from_vec.result c.args.run.now.inputs c.args.run.now.cells c.from_vec-2.result
    c.args.position.now.row c.args.position.now.cells signals values c.requires.row s i
