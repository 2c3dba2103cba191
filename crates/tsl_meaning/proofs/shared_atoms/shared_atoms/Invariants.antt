use Rattle.std.proofs.Common.{◌+◌}
use Rattle.tsl_meaning.specs.RunTree.{run_tree}
use Rattle.tsl_meaning.specs.RunLasso.{run_lasso}
use Rattle.tsl_meaning.specs.internal.SharedAtoms.{HavePlanes}
use Rattle.tsl_meaning.proofs.shared_atoms.shared_atoms.Given as goal

abbrev pub invariant-loop-atom : goal.invariant-loop-atom
invariant-loop-atom g l = HavePlanes (l.run.start + l.run.length)
    (run_lasso (g.J.Algebra.meanings l.judge) (run_tree g.J.Algebra.seen l.run)).holds l.shared.items
