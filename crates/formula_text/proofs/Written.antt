-- Where a formula can be written, its parts can, and where it fits the names, it can be written.
use Rattle.std.proofs.Common.{◌≡◌, true, List, IsTrue, sym, ◌∙◌}
use Rattle.std.proofs.lemmas.Bool.{and_parts, and_from}
use Rattle.tsl_terms.specs.declared.operator.BinaryOperator.{BinaryOperator}
use Rattle.tsl_terms.specs.declared.operator.ManyOperator.{ManyOperator}
use Rattle.tsl_terms.specs.declared.names.NameKind.TheVariants.{Signal}
use Rattle.tsl_terms.specs.Name.{Name}
use Rattle.tsl_terms.specs.FormulaTree.{Atom, test, update, FormulaTree, FormulaTrees, binary, many, more_formulas}
use Rattle.tsl_terms.specs.Atoms.{members_are_made_of}
use Rattle.tsl_terms.specs.SpecTree.{SpecTree, whole_formula}
use Rattle.tsl_terms.specs.WellFormed.{atom_fits}
use Rattle.tsl_terms.specs.Laws.{FormulasFit}
use Rattle.tsl_terms.proofs.WholeAtoms.{whole_is_made_of, is_made_of_then, binary_is_made_of, more_are_made_of, many_is_made_of}
use Rattle.term_text.proofs.Held.{name_held, term_held, probe_held}
use Rattle.formula_text.specs.FormulaText.{atom_is_held, can_be_written}

pub left_written : (names : List Name) (op : BinaryOperator) (a b : FormulaTree) → IsTrue (can_be_written names (binary op a b)) →
    IsTrue (can_be_written names a)
left_written names op a b h = (and_parts (can_be_written names a) (can_be_written names b) (sym (binary_is_made_of
    (atom_is_held names) op a b) ∙ h)).0

pub right_written : (names : List Name) (op : BinaryOperator) (a b : FormulaTree) → IsTrue (can_be_written names (binary op a b)) →
    IsTrue (can_be_written names b)
right_written names op a b h = (and_parts (can_be_written names a) (can_be_written names b) (sym (binary_is_made_of
    (atom_is_held names) op a b) ∙ h)).1

pub members_written : (names : List Name) (op : ManyOperator) (fs : FormulaTrees) → IsTrue (can_be_written names (many op fs)) →
    IsTrue (members_are_made_of (atom_is_held names) fs)
members_written names op fs h = many_is_made_of (atom_is_held names) op fs h

pub first_written : (names : List Name) (f : FormulaTree) (fs : FormulaTrees) →
    IsTrue (members_are_made_of (atom_is_held names) (more_formulas f fs)) → IsTrue (can_be_written names f)
first_written names f fs h = (and_parts (can_be_written names f) (members_are_made_of (atom_is_held names) fs) (sym (more_are_made_of
    (atom_is_held names) f fs) ∙ h)).0

pub rest_written : (names : List Name) (f : FormulaTree) (fs : FormulaTrees) →
    IsTrue (members_are_made_of (atom_is_held names) (more_formulas f fs)) → IsTrue (members_are_made_of (atom_is_held names) fs)
rest_written names f fs h = (and_parts (can_be_written names f) (members_are_made_of (atom_is_held names) fs) (sym (more_are_made_of
    (atom_is_held names) f fs) ∙ h)).1

-- an atom that fits is held
atom_held : (names : List Name) (a : Atom) → atom_fits names a ≡ true → atom_is_held names a ≡ true
atom_held names (test p) h = probe_held names p (and_parts _ _ h).0
atom_held names (update s t) h =
    let parts = and_parts _ _ h in
    and_from _ _ (name_held names s Signal 0 (and_parts _ _ parts.0).0) (term_held names t (and_parts _ _ parts.1).0)

pub whole_written : (spec : SpecTree) → FormulasFit spec → IsTrue (can_be_written spec.names (whole_formula spec))
whole_written spec fit =
    is_made_of_then (atom_fits spec.names) (atom_is_held spec.names) (atom_held spec.names) (whole_formula spec)
    (whole_is_made_of (atom_fits spec.names) spec fit)
