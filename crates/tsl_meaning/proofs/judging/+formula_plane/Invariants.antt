use Rattle.std.proofs.Common.{◌+◌, ◌≤◌}
use Rattle.std.specs.List.{AllByRecursion}
use Rattle.tsl_terms.specs.declared.formula.FormulaList.{size-FormulaList}
use Rattle.tsl_terms.specs.FormulaTree.{formula_trees}
use Rattle.tsl_terms.specs.Atoms.{atoms_of_members}
use Rattle.tsl_meaning.specs.RunTree.{run_tree}
use Rattle.tsl_meaning.specs.RunLasso.{run_lasso, HasTruths}
use Rattle.tsl_meaning.proofs.RunTruths.{AreJoined}
use Rattle.tsl_meaning.proofs.judging.+formula_plane.Given as goal

-- what the members so far make, and the members that are left
abbrev pub invariant-member_plane-loop-rest : goal.invariant-member_plane-loop-rest
invariant-member_plane-loop-rest g l = record {
  shorter : size-FormulaList l.rest ≤ size-FormulaList l.initial.rest;
  had : AllByRecursion (HasTruths (g.J.Algebra.meanings l.judge) (run_tree g.J.Algebra.seen l.run)) (atoms_of_members
      (formula_trees l.rest));
  joined : AreJoined (run_lasso (g.J.Algebra.meanings l.judge) (run_tree g.J.Algebra.seen l.run)) l.operator
      (l.run.start + l.run.length) l.plane.items (formula_trees l.rest) (formula_trees l.fn.members);
}
