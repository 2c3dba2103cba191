use Rattle.std.proofs.Common.{ℕ, ◌+◌, Bool, subst, sym}
use Rattle.std.proofs.lemmas.Result.{IfOk-weaker}
use Rattle.tsl_terms.specs.FormulaTree.{Atom}
use Rattle.tsl_terms.specs.AtomView.{atom_tree}
use Rattle.position_planes.specs.Positions.{IsPlaneOf}
use Rattle.tsl_meaning.specs.RunTree.{run_tree}
use Rattle.tsl_meaning.specs.RunLasso.{run_lasso}
use Rattle.tsl_meaning.proofs.shared_atoms.plane_of_atom.Goals as goal

pub returns-in-Some : goal.returns-in-Some
returns-in-Some g c =
    let n : ℕ = c.args.run.now.start + c.args.run.now.length in
    let holds : ℕ → Atom → Bool = (run_lasso (g.J.Algebra.meanings c.args.judge.now) (run_tree g.J.Algebra.seen c.args.run.now)).holds in
    IfOk-weaker c.from_slice.result _ _
    (λ made is. subst (IsPlaneOf n (λ i. holds i (atom_tree c.args.atom))) (sym is) (c.in-Some.ensures n holds c.requires.shared))
    c.from_slice.ensures.items
