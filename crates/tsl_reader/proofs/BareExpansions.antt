-- Expanded sections without brackets stand for those with brackets, and have not more uses than nodes.
use Rattle.std.proofs.Common.{◌≡◌, ℕ, ◌+◌, ◌≤◌, Bool, true, false, List, [], ◌∷◌, ◌++◌, length, map, refl, ap, sym, ◌∙◌, arith, length-append}
use Rattle.std.specs.Prelude.{flat_map, option_map, option_and_then, if◌then◌else◌}
use Rattle.std.proofs.lemmas.List.{length-map}
use Rattle.std.proofs.lemmas.List.Sums.{sum_by-cons, sum_by-append}
use Rattle.tsl_terms.specs.declared.operator.BinaryOperator.{BinaryOperator}
use Rattle.tsl_terms.specs.declared.operator.BinaryOperator.TheVariants.{Implication, Equivalence, Until, WeakUntil, Release}
use Rattle.tsl_terms.specs.Name.{Name}
use Rattle.tsl_terms.specs.Nodes.{nodes_of_sides}
use Rattle.spec_syntax.specs.declared.syntax.Part.{Part}
use Rattle.spec_syntax.specs.Syntax.{TermSyntax, alone, applied, grouped_term, TermsSyntax, no_terms, more_terms, FormulaSyntax, truth}
use Rattle.spec_syntax.specs.Syntax.{falsehood, bare, tested, updated, grouped, under, between, joined, FormulasSyntax, no_formulas}
use Rattle.spec_syntax.specs.Syntax.{more_formulas, SectionSyntax, Definition}
use Rattle.definition_expansion.specs.declared.definitions.ReadDefinition.{ReadDefinition}
use Rattle.definition_expansion.specs.DefinitionView.{definition_of, named_in, AreHeads}
use Rattle.definition_expansion.specs.Expansion.{expanded}
use Rattle.definition_expansion.specs.Folds.{fold_term, fold_terms, fold, fold_members, node_counts}
use Rattle.definition_expansion.specs.SectionExpansion.{expanded_section, expanded_sections}
use Rattle.definition_expansion.proofs.FoldLaws.{number_of_expansion}
use Rattle.tsl_reader.specs.Naming.{term_uses, terms_uses, uses, members_uses, section_uses, all_uses, numbered_list}
use Rattle.tsl_reader.specs.Naming.{same_part, formulas_of_part}
use Rattle.tsl_reader.specs.ReadText.{StandFor}
use Rattle.tsl_reader.specs.Expanding.{replacing_in, bare_expansion, expanded_bare, nodes_of_expansion, nodes_of_formulas, nodes_of_sections}
use Rattle.tsl_reader.proofs.NumberLemmas.{formulas_split}
use Rattle.tsl_reader.proofs.UngroupedFormulas.{uses_told, numbers_told}

-- there are as many defined names as definitions
pub as_many : (heads : List Name) (ds : List ReadDefinition) → AreHeads heads ds → length heads ≡ length (map definition_of ds)
as_many heads ds are =
    sym (length-map heads (λ n. n.text)) ∙ ap length are ∙ length-map (map definition_of ds) (λ (d : Definition). d.name)

-- ---- not more uses than nodes

mutual
  term_few : (t : TermSyntax) → length (term_uses t) ≤ fold_term node_counts t
  term_few (alone x) = omega arith
  term_few (applied f ts) = omega (arith, terms_few ts)
  term_few (grouped_term t) = term_few t

  terms_few : (ts : TermsSyntax) → length (terms_uses ts) ≤ fold_terms node_counts ts
  terms_few no_terms = omega arith
  terms_few (more_terms t ts) = omega (arith, length-append (term_uses t) (terms_uses ts), term_few t, terms_few ts)

sides_few : (op : BinaryOperator) (m n k l : ℕ) → m ≤ k → n ≤ l → m + n ≤ 1 + nodes_of_sides op k l
sides_few Implication m n k l h i = omega (arith, h, i)
sides_few Equivalence m n k l h i = omega (arith, h, i)
sides_few Until m n k l h i = omega (arith, h, i)
sides_few WeakUntil m n k l h i = omega (arith, h, i)
sides_few Release m n k l h i = omega (arith, h, i)

sum_few : {a b c d : ℕ} → a ≡ b → b ≤ c → c ≤ d → a ≤ d
sum_few e h k = omega (arith, e, h, k)

mutual
  uses_few : (a : FormulaSyntax) → length (uses a) ≤ fold node_counts a
  uses_few truth = omega arith
  uses_few falsehood = omega arith
  uses_few (bare x) = omega arith
  uses_few (tested p ts) = omega (arith, terms_few ts)
  uses_few (updated x t) = omega (arith, term_few t)
  uses_few (grouped a) = uses_few a
  uses_few (under op a) = omega (arith, uses_few a)
  uses_few (between op a b) =
      sum_few (length-append (uses a) (uses b)) (sides_few op (length (uses a)) (length (uses b)) (fold node_counts a) (fold node_counts b)
      (uses_few a) (uses_few b)) (omega arith)
  uses_few (joined op fs) = omega (arith, members_few fs)

  members_few : (fs : FormulasSyntax) → length (members_uses fs) ≤ fold_members node_counts fs
  members_few no_formulas = omega arith
  members_few (more_formulas f fs) = omega (arith, length-append (uses f) (members_uses fs), uses_few f, members_few fs)

module _ (ds : List Definition) where
  abbrev whole : FormulaSyntax → FormulaSyntax
  whole a = expanded (replacing_in ds) (λ x. x) a

  bare_few : (a : FormulaSyntax) → length (uses (bare_expansion ds a)) ≤ nodes_of_expansion ds a
  bare_few a =
      omega (
        arith,
        ap length (uses_told (whole a)),
        uses_few (whole a),
        number_of_expansion node_counts (named_in ds) (length ds) (λ x. x) a,
      )

  formulas_few : (fs : List FormulaSyntax) → length (flat_map uses (map (bare_expansion ds) fs)) ≤ nodes_of_formulas ds fs
  formulas_few [] = omega arith
  formulas_few (f ∷ fs) =
      omega (
        arith,
        length-append (uses (bare_expansion ds f)) (flat_map uses (map (bare_expansion ds) fs)),
        bare_few f,
        formulas_few fs,
        sum_by-cons (nodes_of_expansion ds) f fs,
      )

  -- expanded sections have not more uses than nodes
  pub sections_few : (ss : List SectionSyntax) → length (all_uses (map (expanded_bare ds) ss)) ≤ nodes_of_sections ds ss
  sections_few [] = omega arith
  sections_few (s ∷ ss) =
      omega (
        arith,
        length-append (section_uses (expanded_bare ds s)) (all_uses (map (expanded_bare ds) ss)),
        formulas_few s.formulas,
        sections_few ss,
        sum_by-append (nodes_of_expansion ds) s.formulas (flat_map (λ r. r.formulas) ss),
      )

  -- ---- without brackets they stand for those with brackets

  formulas_use : (fs : List FormulaSyntax) → flat_map uses (map (bare_expansion ds) fs) ≡ flat_map uses (map whole fs)
  formulas_use [] = refl
  formulas_use (f ∷ fs) = λ i. uses_told (whole f) i ++ formulas_use fs i

  sections_use : (ss : List SectionSyntax) → all_uses (map (expanded_bare ds) ss) ≡ all_uses (expanded_sections (replacing_in ds) ss)
  sections_use [] = refl
  sections_use (s ∷ ss) = λ i. formulas_use s.formulas i ++ sections_use ss i

  formulas_numbered : (names : List Name) (fs : List FormulaSyntax) (left right : List FormulaSyntax) →
      numbered_list names left ≡ numbered_list names right →
      numbered_list names (map (bare_expansion ds) fs ++ left) ≡ numbered_list names (map whole fs ++ right)
  formulas_numbered names [] left right h = h
  formulas_numbered names (f ∷ fs) left right h =
      λ i. option_and_then (λ tree. option_map (λ trees. tree ∷ trees) (formulas_numbered names fs left right h i)) (numbers_told names (whole f) i)

  numbered_alike : (names : List Name) (part : Part) (ss : List SectionSyntax) →
      numbered_list names (formulas_of_part part (map (expanded_bare ds) ss))
      ≡ numbered_list names (formulas_of_part part (expanded_sections (replacing_in ds) ss))
  numbered_alike names part [] = refl
  numbered_alike names part (s ∷ ss) =
      ap (numbered_list names) (formulas_split part (expanded_bare ds s) (map (expanded_bare ds) ss))
      ∙ by (same_part part s.part) _ _ (numbered_alike names part ss)
      ∙ ap (numbered_list names) (sym (formulas_split part (expanded_section (replacing_in ds) s) (expanded_sections (replacing_in ds) ss)))
    where
      by : (b : Bool) (left right : List FormulaSyntax) → numbered_list names left ≡ numbered_list names right →
          numbered_list names ((if b then map (bare_expansion ds) s.formulas else []) ++ left)
          ≡ numbered_list names ((if b then map whole s.formulas else []) ++ right)
      by true left right h = formulas_numbered names s.formulas left right h
      by false left right h = h

  pub bare_stand : (ss : List SectionSyntax) → StandFor (map (expanded_bare ds) ss) (expanded_sections (replacing_in ds) ss)
  bare_stand ss = record { uses = sections_use ss; numbers = λ names part. numbered_alike names part ss }
