-- A spelled specification fits: its names are distinct and may be written, and its formulas fit them.
use Rattle.std.proofs.Common.{◌≡◌, ℕ, true, List, [], refl, ap, sym, ◌∙◌, inl, inr}
use Rattle.std.specs.Prelude.{Some, flat_map, IsTrue}
use Rattle.std.specs.List.{list_all}
use Rattle.std.proofs.lemmas.List.Folds.{list_all-append}
use Rattle.tsl_terms.specs.Name.{Name}
use Rattle.tsl_terms.specs.FormulaTree.{FormulaTree}
use Rattle.tsl_terms.specs.SpecTree.{SpecTree}
use Rattle.tsl_terms.specs.WellFormed.{formula_fits, name_fits, SpecFits}
use Rattle.tsl_terms.proofs.FirstUses.{first_uses_distinct}
use Rattle.spec_syntax.specs.declared.syntax.Part.{Part}
use Rattle.spec_syntax.specs.declared.syntax.Part.TheVariants.{AssumeFirst, AssumeAlways, GuaranteeFirst, GuaranteeAlways}
use Rattle.tsl_reader.specs.Naming.{all_uses, named_by, names_of, numbered_list, formulas_of_part}
use Rattle.tsl_reader.specs.Spells.{IsDerived, Spells}
use Rattle.tsl_reader.proofs.FewNames.{kept_by_uses}
use Rattle.base_library.proofs.Passes.{list_all_push}
use Rattle.tsl_reader.proofs.Known.{MayBeNamed, each_named}
use Rattle.tsl_reader.proofs.ExpandedTexts.{TextExpands, usable, list_good}

name_is_fit : (n : Name) → MayBeNamed n → name_fits n ≡ true
name_is_fit n (inl asks) = ap name_fits asks
name_is_fit n (inr usable) = rw usable refl

text_expands : (text : List ℕ) (spec : SpecTree) → (d : IsDerived text spec) →
    TextExpands text d.tokens d.own d.declarations d.expanded d.sections
text_expands text spec d =
    record { derives = d.derives; well = d.named_well; expands = d.expands; sections_are = d.sections_are }

list_fits : (text : List ℕ) (spec : SpecTree) → (d : IsDerived text spec) → (part : Part) (fs : List FormulaTree) →
    numbered_list spec.names (formulas_of_part part d.sections) ≡ Some fs → list_all (formula_fits spec.names) fs ≡ true
list_fits text spec d part fs is =
    let good = list_good text d.tokens d.own d.declarations d.expanded d.sections (text_expands text spec d) part in
    let same : Some good.trees ≡ Some fs = sym good.numbered_are
    ∙ ap (λ names. numbered_list names (formulas_of_part part d.sections)) (sym d.names) ∙ is in
    let trees : good.trees ≡ fs = cc in
    ap (λ names. list_all (formula_fits names) fs) d.names ∙ ap (list_all (formula_fits (names_of d.sections))) (sym trees) ∙ good.fit

pub derived_fits : (text : List ℕ) (spec : SpecTree) → IsDerived text spec → SpecFits spec
derived_fits text spec d = record {
  distinct = rw d.names (first_uses_distinct (flat_map named_by (all_uses d.sections)));
  names = rw d.names (kept_by_uses (λ names. IsTrue (list_all name_fits names)) MayBeNamed
      (λ names u none fit may. list_all_push name_fits names u fit (name_is_fit u may)) (flat_map named_by (all_uses d.sections)) [] refl
      (each_named (all_uses d.sections) (usable text d.tokens d.own d.declarations d.expanded d.sections (text_expands text spec d))));
  formulas = simp (
    list_all-append,
    list_fits text spec d AssumeFirst spec.assume_first d.assume_first,
    list_fits text spec d AssumeAlways spec.assume_always d.assume_always,
    list_fits text spec d GuaranteeFirst spec.guarantee_first d.guarantee_first,
    list_fits text spec d GuaranteeAlways spec.guarantee_always d.guarantee_always,
  );
}

pub spelled_fits : (text : List ℕ) (spec : SpecTree) → Spells text spec → SpecFits spec
spelled_fits text spec h = derived_fits text spec h.derived
