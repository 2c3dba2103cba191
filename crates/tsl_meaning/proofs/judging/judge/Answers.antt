use Rattle.std.proofs.Common.{◌+◌, subst, sym}
use Rattle.tsl_terms.specs.FormulaTree.{formula_tree}
use Rattle.position_planes.specs.Positions.{IsPlaneOf}
use Rattle.tsl_meaning.specs.Lasso.{meets}
use Rattle.tsl_meaning.specs.RunTree.{run_tree}
use Rattle.tsl_meaning.specs.RunLasso.{run_lasso}
use Rattle.tsl_meaning.proofs.judging.judge.Goals as goal

pub returns : goal.returns
returns g c =
    let meant = meets (run_lasso (g.J.Algebra.meanings c.args.judge.now) (run_tree g.J.Algebra.seen c.args.run.now))
    (formula_tree c.args.formula.now) in
    c.holds_at.ensures meant
    (subst (IsPlaneOf (c.args.run.now.start + c.args.run.now.length) meant) (sym c.deref.ensures.value) c.in_ok-plane.ensures)
