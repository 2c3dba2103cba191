use Rattle.std.proofs.Common.{◌++◌, map, refl, ap, ◌∙◌}
use Rattle.tsl_terms.specs.FormulaTree.{formula_trees}
use Rattle.tsl_terms.specs.Atoms.{atoms_of_members}
use Rattle.tsl_terms.specs.AtomView.{atom_tree}
use Rattle.tsl_terms.specs.SpecView.{spec_tree}
use Rattle.tsl_terms.proofs.WholeAtoms.{four_lists}
use Rattle.tsl_terms.proofs.atom.atoms_of_spec.Goals as goal

pub returns : goal.returns
returns c =
    let spec = c.args.spec.now in
    let a = formula_trees spec.assume_first in
    let b = formula_trees spec.assume_always in
    let d = formula_trees spec.guarantee_first in
    let e = formula_trees spec.guarantee_always in
    c.in_ok-add_member_atoms-4.ensures
    ∙ ap (λ xs. xs ++ atoms_of_members e) (c.in_ok-add_member_atoms-3.ensures
    ∙ ap (λ xs. xs ++ atoms_of_members d) (c.in_ok-add_member_atoms-2.ensures
    ∙ ap (λ xs. xs ++ atoms_of_members b) (c.in_ok-add_member_atoms.ensures
    ∙ ap (λ xs. map atom_tree xs ++ atoms_of_members a) c.new-list.ensures.items)))
    ∙ four_lists (spec_tree spec) a b d e refl refl refl refl
