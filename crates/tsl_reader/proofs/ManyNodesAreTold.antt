-- The whole formula of a specification has at least the nodes of its formulas. So where the sections of a text expand to formulas
-- that have too many, which is told without making them, so has the whole formula.
use Rattle.std.proofs.Common.{◌≡◌, ℕ, ◌+◌, ◌<◌, ◌≤◌, min, List, [], ◌∷◌, ◌++◌, length, map, refl, ap, sym, ◌∙◌, arith}
use Rattle.std.specs.Prelude.{flat_map}
use Rattle.std.specs.List.{sum, sum_by}
use Rattle.std.proofs.lemmas.List.{map-append}
use Rattle.std.proofs.lemmas.List.Sums.{sum_by-cons, sum_by-append, sum-map}
use Rattle.base_library.proofs.Lists.{map_map, map_agree}
use Rattle.tsl_terms.specs.declared.operator.UnaryOperator.TheVariants.{Globally}
use Rattle.tsl_terms.specs.Name.{Name}
use Rattle.tsl_terms.specs.FormulaTree.{FormulaTree, unary, formulas_of}
use Rattle.tsl_terms.specs.Nodes.{nodes, nodes_of_members}
use Rattle.tsl_terms.specs.SpecTree.{SpecTree, conjunction_of, assumed, guaranteed, under_assumptions, whole_formula}
use Rattle.spec_syntax.specs.declared.syntax.Part.{Part}
use Rattle.spec_syntax.specs.declared.syntax.Part.TheVariants.{AssumeFirst, AssumeAlways, GuaranteeFirst, GuaranteeAlways}
use Rattle.spec_syntax.specs.Syntax.{FormulaSyntax, SectionSyntax, Definition}
use Rattle.definition_expansion.specs.DefinitionView.{named_in}
use Rattle.definition_expansion.specs.Expansion.{expanded}
use Rattle.definition_expansion.specs.SectionExpansion.{expanded_sections}
use Rattle.definition_expansion.specs.Folds.{fold, node_counts}
use Rattle.definition_expansion.proofs.FoldLaws.{number_of_expansion}
use Rattle.tsl_reader.specs.Naming.{formulas_of_part}
use Rattle.tsl_reader.specs.Numbering.{formulas_if}
use Rattle.tsl_reader.specs.Expanding.{replacing_in, nodes_of_expansion, nodes_of_sections}
use Rattle.tsl_reader.proofs.Fits.{ListGood}
use Rattle.tsl_reader.proofs.NumberLemmas.{formulas_split}

-- ---- the whole formula

members_sum : (fs : List FormulaTree) → nodes_of_members (formulas_of fs) ≡ sum_by nodes fs
members_sum [] = refl
members_sum (f ∷ fs) = ap (λ n. nodes f + n) (members_sum fs) ∙ sym (sum_by-cons nodes f fs)

conjunction_has : (fs : List FormulaTree) → sum_by nodes fs ≤ nodes (conjunction_of fs)
conjunction_has [] = omega arith
conjunction_has (f ∷ []) = omega arith
conjunction_has (f ∷ g ∷ fs) = omega (arith, members_sum (f ∷ g ∷ fs))

always_has : (fs : List FormulaTree) → sum_by nodes fs ≤ sum_by nodes (map (unary Globally) fs)
always_has [] = omega arith
always_has (f ∷ fs) =
    omega (arith, sum_by-cons nodes f fs, sum_by-cons nodes (unary Globally f) (map (unary Globally) fs), always_has fs)

part_has : (first always : List FormulaTree) →
    sum_by nodes first + sum_by nodes always ≤ sum_by nodes (first ++ map (unary Globally) always)
part_has first always = omega (arith, sum_by-append nodes first (map (unary Globally) always), always_has always)

both_have : (fs : List FormulaTree) (guarantee : FormulaTree) →
    sum_by nodes fs + nodes guarantee ≤ nodes (under_assumptions fs guarantee)
both_have [] guarantee = omega arith
both_have (f ∷ fs) guarantee = omega (arith, conjunction_has (f ∷ fs))

-- the whole formula has at least the nodes of the four lists
whole_has : (spec : SpecTree) → (sum_by nodes spec.assume_first + sum_by nodes spec.assume_always)
    + (sum_by nodes spec.guarantee_first + sum_by nodes spec.guarantee_always) ≤ nodes (whole_formula spec)
whole_has spec = omega (
  arith,
  part_has spec.assume_first spec.assume_always,
  part_has spec.guarantee_first spec.guarantee_always,
  conjunction_has (guaranteed spec),
  both_have (assumed spec) (conjunction_of (guaranteed spec)),
)

-- ---- the formulas of sections

module _ (W : FormulaSyntax → ℕ) where
  abbrev of_part : Part → List SectionSyntax → ℕ
  of_part part ss = sum_by W (formulas_of_part part ss)

  -- each section goes to one of the four lists
  one_part : (fs : List FormulaSyntax) (q : Part) → (s : SectionSyntax) → s ≡ record { part = q; formulas = fs } →
      (sum_by W (formulas_if AssumeFirst s) + sum_by W (formulas_if AssumeAlways s))
      + (sum_by W (formulas_if GuaranteeFirst s) + sum_by W (formulas_if GuaranteeAlways s)) ≡ sum_by W fs
  one_part fs AssumeFirst s is = rw is (omega arith)
  one_part fs AssumeAlways s is = rw is (omega arith)
  one_part fs GuaranteeFirst s is = rw is (omega arith)
  one_part fs GuaranteeAlways s is = rw is (omega arith)

  pub parts_are_all : (ss : List SectionSyntax) → sum_by W (flat_map (λ s. s.formulas) ss)
      ≡ (of_part AssumeFirst ss + of_part AssumeAlways ss) + (of_part GuaranteeFirst ss + of_part GuaranteeAlways ss)
  parts_are_all [] = refl
  parts_are_all (s ∷ ss) =
      let next : (p : Part) → of_part p (s ∷ ss) ≡ sum_by W (formulas_if p s) + of_part p ss = λ p.
      ap (sum_by W) (formulas_split p s ss) ∙ sum_by-append W (formulas_if p s) (formulas_of_part p ss) in
      omega (
        arith,
        sum_by-append W s.formulas (flat_map (λ r. r.formulas) ss),
        parts_are_all ss,
        one_part s.formulas s.part s refl,
        next AssumeFirst,
        next AssumeAlways,
        next GuaranteeFirst,
        next GuaranteeAlways,
      )

-- the nodes of what the formulas of sections expand to are told without making it
module _ (ds : List Definition) where
  abbrev whole : FormulaSyntax → FormulaSyntax
  whole a = expanded (replacing_in ds) (λ x. x) a

  all_whole : (ss : List SectionSyntax) →
      flat_map (λ s. s.formulas) (expanded_sections (replacing_in ds) ss) ≡ map whole (flat_map (λ s. s.formulas) ss)
  all_whole [] = refl
  all_whole (s ∷ ss) =
      ap (λ fs. map whole s.formulas ++ fs) (all_whole ss) ∙ sym (map-append whole s.formulas (flat_map (λ r. r.formulas) ss))

  sections_told : (ss : List SectionSyntax) →
      sum_by (fold node_counts) (flat_map (λ s. s.formulas) (expanded_sections (replacing_in ds) ss)) ≡ nodes_of_sections ds ss
  sections_told ss =
      let fs = flat_map (λ s. s.formulas) ss in
      ap (sum_by (fold node_counts)) (all_whole ss) ∙ sym (sum-map (fold node_counts) (map whole fs))
      ∙ ap sum (map_map (fold node_counts) whole fs
      ∙ map_agree _ (nodes_of_expansion ds) (number_of_expansion node_counts (named_in ds) (length ds) (λ x. x)) fs)
      ∙ sum-map (nodes_of_expansion ds) fs

-- the specification of sections whose formulas get their numbers
abbrev pub spec_of : (names : List Name) (rs : List SectionSyntax) → ((part : Part) → ListGood names (formulas_of_part part rs)) → SpecTree
spec_of names rs good = record {
  names = names;
  assume_first = (good AssumeFirst).trees;
  assume_always = (good AssumeAlways).trees;
  guarantee_first = (good GuaranteeFirst).trees;
  guarantee_always = (good GuaranteeAlways).trees;
}

-- where the nodes of what sections expand to, counted up to a bound, are more than a number, so are those of the whole formula
pub many_nodes_are_told : (stop most : ℕ) (names : List Name) (ds : List Definition) (ss : List SectionSyntax)
    (good : (part : Part) → ListGood names (formulas_of_part part (expanded_sections (replacing_in ds) ss))) →
    most < min stop (nodes_of_sections ds ss) → most < nodes (whole_formula (spec_of names (expanded_sections (replacing_in ds) ss) good))
many_nodes_are_told stop most names ds ss good many = omega (
  arith,
  many,
  sections_told ds ss,
  parts_are_all (fold node_counts) (expanded_sections (replacing_in ds) ss),
  (good AssumeFirst).nodes_are,
  (good AssumeAlways).nodes_are,
  (good GuaranteeFirst).nodes_are,
  (good GuaranteeAlways).nodes_are,
  whole_has (spec_of names (expanded_sections (replacing_in ds) ss) good),
)
