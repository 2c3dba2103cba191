-- Steps of reading a text, over plain variables.
use Rattle.std.proofs.Common.{◌≡◌, ℕ, suc, ◌+◌, ◌-◌, ◌<◌, Bool, true, false, List, length, get_or, drop}
use Rattle.std.proofs.Common.{ap, sym, ◌∙◌, arith}
use Rattle.std.proofs.lemmas.Bool.{leb-true, leb-false}
use Rattle.std.proofs.lemmas.List.{drop_more}
use Rattle.std.proofs.lemmas.Option.{same_Some}
use Rattle.std.specs.List.{list_all}
use Rattle.std.specs.Prelude.{Option, Some, slice_get, flat_map, nat_le}
use Rattle.tsl_text.specs.declared.Token.{Token}
use Rattle.tsl_terms.specs.Name.{Name}
use Rattle.tsl_terms.specs.Clashes.{first_uses}
use Rattle.tsl_terms.specs.FormulaTree.{FormulaTrees, formulas_in as members_in}
use Rattle.tsl_terms.specs.Nodes.{nodes}
use Rattle.tsl_terms.specs.SpecTree.{SpecTree, whole_formula}
use Rattle.tsl_terms.specs.WellFormed.{formula_fits, formulas_fit}
use Rattle.spec_syntax.specs.declared.syntax.Part.TheVariants.{AssumeFirst, AssumeAlways, GuaranteeFirst, GuaranteeAlways}
use Rattle.spec_syntax.specs.Syntax.{FormulaSyntax, SectionSyntax}
use Rattle.tsl_reader.specs.Naming.{named_by, names_of, numbered_list, formulas_of_part}
use Rattle.tsl_reader.specs.Numbering.{HasNumbers}
use Rattle.spec_syntax.specs.Texts.{terminal_at}
use Rattle.tsl_reader.specs.Spells.{is_free, name_tokens}
use Rattle.tsl_reader.specs.Spells.{IsDerived, Spells, HasTooManyNodes, most_formula_nodes}
use Rattle.tsl_reader.specs.ReadText.{AreExpanded}

-- the names among the tokens that are left

pub name_passed : (text : List ℕ) (ts : List Token) (i left less : ℕ) (d : Token) (at : Option Token) → i < length ts →
    is_free (terminal_at text (get_or ts i d)) ≡ true →
    (left ≡ 0 → ⊥) → less ≡ left - 1 → slice_get (name_tokens text (drop i ts)) left ≡ at →
    slice_get (name_tokens text (drop (i + 1) ts)) less ≡ at
name_passed text ts i left less d at within is some one h =
    let more : left ≡ suc less = omega (arith, some, one) in
    rw (drop_more ts i d within, is, more) at h

pub name_skipped : (text : List ℕ) (ts : List Token) (i left same : ℕ) (d : Token) (at : Option Token) → i < length ts →
    is_free (terminal_at text (get_or ts i d)) ≡ false → same ≡ left →
    slice_get (name_tokens text (drop i ts)) left ≡ at → slice_get (name_tokens text (drop (i + 1) ts)) same ≡ at
name_skipped text ts i left same d at within is e h = rw e (rw (drop_more ts i d within, is) at h)

-- a list that has its numbers fits the names

pub list_fits : (names : List Name) (fs : List FormulaSyntax) (list : FormulaTrees) → HasNumbers names fs →
    numbered_list names fs ≡ Some (members_in list) →
    formulas_fit names list ≡ true
list_fits names fs list h is =
    let trees = same_Some h.trees (members_in list) (sym h.numbered ∙ is) in
    ap (list_all (formula_fits names)) (sym trees) ∙ h.fit

-- the specification

pub derives_spec : (text : List ℕ) (ss : List SectionSyntax) (names : List Name) (spec : SpecTree) → (e : AreExpanded text ss) →
    names ≡ names_of ss → spec.names ≡ names →
    numbered_list names (formulas_of_part AssumeFirst ss) ≡ Some spec.assume_first →
    numbered_list names (formulas_of_part AssumeAlways ss) ≡ Some spec.assume_always →
    numbered_list names (formulas_of_part GuaranteeFirst ss) ≡ Some spec.guarantee_first →
    numbered_list names (formulas_of_part GuaranteeAlways ss) ≡ Some spec.guarantee_always →
    IsDerived text spec
derives_spec text ss names spec e named are a b c d = record {
  tokens = e.tokens;
  own = e.own;
  declarations = e.declarations;
  derives = e.derives;
  named_well = e.named_well;
  expanded = e.expanded;
  expands = e.expands;
  sections = e.sections;
  sections_are = e.sections_are;
  names = are ∙ named ∙ ap (λ us. first_uses (flat_map named_by us)) e.stand_for.uses;
  assume_first = sym (e.stand_for.numbers spec.names AssumeFirst) ∙ (rw are a);
  assume_always = sym (e.stand_for.numbers spec.names AssumeAlways) ∙ (rw are b);
  guarantee_first = sym (e.stand_for.numbers spec.names GuaranteeFirst) ∙ (rw are c);
  guarantee_always = sym (e.stand_for.numbers spec.names GuaranteeAlways) ∙ (rw are d);
}

-- how many nodes the whole formula has

pub few_nodes : (text : List ℕ) (spec : SpecTree) (few : Bool) → IsDerived text spec →
    few ≡ nat_le (nodes (whole_formula spec)) most_formula_nodes → few ≡ true → Spells text spec
few_nodes text spec few derived test is =
    record { derived = derived; few_nodes = leb-true (nodes (whole_formula spec)) most_formula_nodes (sym test ∙ is) }

pub many_nodes : (text : List ℕ) (spec : SpecTree) (few : Bool) → IsDerived text spec →
    few ≡ nat_le (nodes (whole_formula spec)) most_formula_nodes → few ≡ false → HasTooManyNodes text
many_nodes text spec few derived test is =
    record { spec = spec; derived = derived; many_nodes = leb-false (nodes (whole_formula spec)) most_formula_nodes (sym test ∙ is) }
