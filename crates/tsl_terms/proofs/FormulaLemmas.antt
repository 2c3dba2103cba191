-- Lists of formulas that are built and read member by member.
use Rattle.std.proofs.Common.{◌≡◌, List, [], ◌∷◌, ◌++◌, map, refl, ap}
use Rattle.base_library.proofs.Lists.{with_front}
pub use Rattle.base_library.proofs.Lists.{with_front_push, map_push_front}
use Rattle.std.proofs.lemmas.List.{append-nil}
use Rattle.tsl_terms.specs.declared.formula.Formula.{Formula}
use Rattle.tsl_terms.specs.FormulaTree.{FormulaTree, FormulaTrees, no_formulas, more_formulas, formulas_in, formulas_of, formula_tree}

pub with_front_none : (front : List FormulaTree) → with_front more_formulas front no_formulas ≡ formulas_of front
with_front_none [] = refl
with_front_none (f ∷ front) = ap (more_formulas f) (with_front_none front)

-- the list of a list's members is the list
pub formulas_of_members : (fs : FormulaTrees) → formulas_of (formulas_in fs) ≡ fs
formulas_of_members no_formulas = refl
formulas_of_members (more_formulas f fs) = ap (more_formulas f) (formulas_of_members fs)

-- copies that are made, and no members that are left
pub copies_end : (copies : List Formula) → map formula_tree copies ++ [] ≡ map formula_tree copies
copies_end copies = append-nil (map formula_tree copies)
