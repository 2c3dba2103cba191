-- The whole formula of a specification can be written.
use Rattle.std.specs.Prelude.{◌≡◌, true}
use Rattle.tsl_terms.specs.declared.spec.Spec.{Spec}
use Rattle.tsl_terms.specs.SpecTree.{whole_formula}
use Rattle.tsl_terms.specs.SpecView.{spec_tree}
use Rattle.tsl_terms.specs.WellFormed.{formula_fits}
use Rattle.tsl_terms.proofs.WholeAtoms.{fits_all}
use Rattle.formula_text.specs.FormulaText.{can_be_written}
use Rattle.formula_text.proofs.Written.{whole_written}

pub spec_written : (spec : Spec) → can_be_written spec.names (whole_formula (spec_tree spec)) ≡ true
spec_written spec =
    whole_written (spec_tree spec) (fits_all (formula_fits spec.names) (spec_tree spec)
    spec.assume_first_fits spec.assume_always_fits spec.guarantee_first_fits spec.guarantee_always_fits)
