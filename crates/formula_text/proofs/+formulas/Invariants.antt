-- What is written and what is left are the members that were handed in.
use Rattle.std.proofs.Common.{◌≡◌, ◌++◌, IsTrue, ◌≤◌}
use Rattle.tsl_terms.specs.declared.formula.FormulaList.{size-FormulaList}
use Rattle.tsl_terms.specs.FormulaTree.{formula_trees}
use Rattle.tsl_terms.specs.Atoms.{members_are_made_of}
use Rattle.formula_text.specs.FormulaText.{others_text, atom_is_held}
use Rattle.formula_text.proofs.+formulas.Given as goal

abbrev pub invariant-put_others-loop-rest : goal.invariant-put_others-loop-rest
invariant-put_others-loop-rest l = record {
  can : IsTrue (members_are_made_of (atom_is_held l.names) (formula_trees l.rest));
  written : l.out.items ++ others_text l.names l.connective (formula_trees l.rest) ≡ l.fn.out.items
      ++ others_text l.names l.connective (formula_trees l.fn.members);
  size : size-FormulaList l.rest ≤ size-FormulaList l.fn.members;
}
