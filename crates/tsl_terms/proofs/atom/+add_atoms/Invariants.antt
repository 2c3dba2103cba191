use Rattle.std.proofs.Common.{◌≡◌, ◌++◌, ◌≤◌, map}
use Rattle.tsl_terms.specs.declared.formula.FormulaList.{size-FormulaList}
use Rattle.tsl_terms.specs.FormulaTree.{formula_trees}
use Rattle.tsl_terms.specs.Atoms.{atoms_of_members}
use Rattle.tsl_terms.specs.AtomView.{atom_tree}
use Rattle.tsl_terms.proofs.atom.+add_atoms.Given as goal

-- the atoms so far, and then those of the formulas that are left
abbrev pub invariant-add_member_atoms-loop-rest : goal.invariant-add_member_atoms-loop-rest
invariant-add_member_atoms-loop-rest l =
    (map atom_tree l.list.items ++ atoms_of_members (formula_trees l.rest) ≡ map atom_tree l.fn.list.items
    ++ atoms_of_members (formula_trees l.fn.formulas))
    × (size-FormulaList l.rest ≤ size-FormulaList l.initial.rest)
