use Rattle.std.proofs.Common.{◌∙◌, refl, map, ap, sym, slice_get}
use Rattle.std.proofs.lemmas.Option.{slice_get_read}
use Rattle.std.proofs.lemmas.List.{take_all}
use Rattle.interp_core.specs.LeafValue.{leaf_value}
use Rattle.tsl_meaning.specs.RunTree.{position_tree, run_tree}
use Rattle.tsl_meaning.specs.RunLasso.{value_at}
use Rattle.base_library.proofs.Lists.{alike_more, map_map}
use Rattle.tsl_meaning.proofs.leaves.leaves_of.Goals as goal

pub leaves_at-requires-clause-row : goal.leaves_at-requires-clause-row
leaves_at-requires-clause-row g c =
    (c.args.run.now.positions_fit c.loop-position.position-index c.position-item.result
    (ap (λ xs. slice_get xs c.loop-position.position-index) (sym c.as_slice-position-items.ensures)
    ∙ slice_get_read _ _ _ _ refl c.loop-position-test.true c.position-item.is)).0

pub leaves_at-requires-clause-cells : goal.leaves_at-requires-clause-cells
leaves_at-requires-clause-cells g c =
    (c.args.run.now.positions_fit c.loop-position.position-index c.position-item.result
    (ap (λ xs. slice_get xs c.loop-position.position-index) (sym c.as_slice-position-items.ensures)
    ∙ slice_get_read _ _ _ _ refl c.loop-position-test.true c.position-item.is)).1

pub loop-position-preserved : goal.loop-position-preserved
loop-position-preserved g c =
    alike_more (leaf_value g.J.Algebra.seen) (λ p. value_at (run_tree g.J.Algebra.seen c.args.run.now) (position_tree g.J.Algebra.seen p))
    c.loop-position.leaves.items _ _ c.as_slice-position-items.result.now c.loop-position.position-index c.position-item.result
    c.loop-position-test.true c.position-item.is c.loop-position.invariant c.in_ok-leaves_at.ensures c.in_ok-push.ensures.items

pub returns : goal.returns
returns g c =
    c.loop-position.invariant
    ∙ ap (map (λ p. value_at (run_tree g.J.Algebra.seen c.args.run.now) (position_tree g.J.Algebra.seen p)))
    (take_all c.loop-position.position-index _ c.loop-position-test.false ∙ c.as_slice-position-items.ensures)
    ∙ sym (map_map (value_at (run_tree g.J.Algebra.seen c.args.run.now)) (position_tree g.J.Algebra.seen) c.args.run.now.positions)
