-- What the sections of a text expand to, where its names are well: they use no name in a new way, and derive exactly where no
-- use is too deep.
use Rattle.std.proofs.Common.{◌≡◌, ℕ, zero, suc, ◌+◌, ◌≤◌, true, false, not, min, List, [], ◌∷◌, length, map, refl, sym, subst, arith}
use Rattle.std.specs.Prelude.{Option, Some, None, flat_map, slice_get, position}
use Rattle.std.specs.List.{list_all, AllByRecursion}
use Rattle.std.proofs.lemmas.Option.{none-some, same_Some}
use Rattle.base_library.proofs.Each.{each_from_places, each_joined, each_map, each_flat_map, each_weaker, each_both, each_unmapped}
use Rattle.base_library.proofs.Passes.{list_all_from_each}
use Rattle.tsl_terms.specs.Name.{Name}
use Rattle.tsl_terms.specs.Clashes.{with_use}
use Rattle.spec_syntax.specs.Syntax.{Terminal, FormulaSyntax, SectionSyntax, Definition, Declaration, the_section, the_definition, sections_among}
use Rattle.spec_syntax.specs.Grammar.{AreItems, nothing, last_item, item, braces, AreSections}
use Rattle.spec_syntax.specs.Grammar.{IsDefinition, equation, AreDeclarations, no_declaration, a_section, a_definition}
use Rattle.spec_syntax.specs.Levels.{depth}
use Rattle.spec_syntax.proofs.Written.{formula_fits}
use Rattle.spec_syntax.proofs.DeclarationLaws.{sections_derive}
use Rattle.definition_expansion.specs.DefinitionView.{named_in}
use Rattle.definition_expansion.specs.Expansion.{expanded, expansion_within}
use Rattle.definition_expansion.specs.TextExpansion.{Expands}
use Rattle.definition_expansion.specs.WellUsed.{as_written, UsesWell, AreRanked}
use Rattle.definition_expansion.specs.Folds.{fold_by, depths}
use Rattle.definition_expansion.specs.ExpansionSizes.{number_in}
use Rattle.definition_expansion.specs.declared.sizing.TheConstants.{LEVELS_STOP}
use Rattle.definition_expansion.specs.Derivable.{Derivable, FormulaDerives, BodiesDerive}
use Rattle.definition_expansion.specs.UseLevels.{uses_at, AreWithin}
use Rattle.definition_expansion.specs.Occurrences.{Passing, Occurs, Plain, InBody}
use Rattle.definition_expansion.specs.SectionExpansion.{expanded_section, expanded_sections, EachFormula, SectionsUseWell, FormulasDerive}
use Rattle.definition_expansion.specs.internal.UseNumbers.{used_names}
use Rattle.definition_expansion.proofs.NamedLemmas.{named_at}
use Rattle.definition_expansion.proofs.NoNewUses.{no_new_use}
use Rattle.definition_expansion.proofs.LevelLaws.{expansion_derives, expansion_needs, uses_are_within, formula_is_within}
use Rattle.definition_expansion.proofs.SizeLemmas.{formula_stopped, depths_stop}
use Rattle.definition_expansion.proofs.SectionExpansion.{sections_expand, one_expansion_of_sections}
use Rattle.name_resolution.specs.Heads.{head_of, definitions_in}
use Rattle.name_resolution.specs.Occurrences.{Occurrence, of_section, of_body, formula_occurrences, section_occurrences}
use Rattle.name_resolution.specs.Occurrences.{definition_occurrences, occurrences_behind, head_name, parameter_name, is_repeated}
use Rattle.name_resolution.specs.Heads.{is_name}
use Rattle.name_resolution.specs.Faults.{deepest_level, is_deep_use, levels_for}
use Rattle.name_resolution.specs.WellDeclared.{heads_of, names_in, AreNamedWell, is_use_too_deep, AreLevels, IsWellDeclared, UsesFit, occurs_plain, IsPlainlyUsed}
use Rattle.name_resolution.proofs.Ranked.{ranks_are}
use Rattle.name_resolution.proofs.WholeText.{text_well, text_ranked, text_fits, text_plain}
use Rattle.name_resolution.proofs.DeepNames.{IsWithin, other_within, names_within, body_within}

-- ---- sections and definitions, each from a fact on all declarations

among_sections : (P : Declaration → Type 0) (Q : SectionSyntax → Type 0) → ((s : SectionSyntax) → P (the_section s) → Q s) →
    (ds : List Declaration) → AllByRecursion P ds → AllByRecursion Q (sections_among ds)
among_sections P Q from [] h = tt
among_sections P Q from (the_section s ∷ ds) h = (from s h.0, among_sections P Q from ds h.1)
among_sections P Q from (the_definition d ∷ ds) h = among_sections P Q from ds h.1

body_plain : (all : List Occurrence) (named : List ℕ → Option Definition) (rank : List ℕ → ℕ) (ds : List Declaration) (i : ℕ) (d : Definition) →
    slice_get (definitions_in ds) i ≡ Some d → AllByRecursion (IsPlainlyUsed all named rank) ds →
    Plain (InBody (Passing (occurs_plain all)) d.parameters) named rank d.body
body_plain all named rank [] i d at h = absurd (none-some d at)
body_plain all named rank (the_section s ∷ ds) i d at h = body_plain all named rank ds i d at h.1
body_plain all named rank (the_definition e ∷ ds) zero d at h =
    subst (λ (f : Definition). Plain (InBody (Passing (occurs_plain all)) f.parameters) named rank f.body) (same_Some e d at) h.0
body_plain all named rank (the_definition e ∷ ds) (suc i) d at h = body_plain all named rank ds i d at h.1

definition_derives : {levels_left : ℕ} {xs : List Terminal} {d : Definition} → IsDefinition levels_left xs d → Derivable d.body
definition_derives {levels_left = levels_left} (equation {xs = xs} x ps h) = record { levels_left = levels_left; terminals = xs; derived = h }

body_derives : {levels_left : ℕ} {xs own : List Terminal} {ds : List Declaration} → AreDeclarations levels_left xs own ds → (i : ℕ) (d : Definition) →
    slice_get (definitions_in ds) i ≡ Some d → Derivable d.body
body_derives no_declaration i d at = absurd (none-some d at)
body_derives (a_section h k) i d at = body_derives k i d at
body_derives (a_definition {d = e} h k) zero d at = subst (λ (f : Definition). Derivable f.body) (same_Some e d at) (definition_derives h)
body_derives (a_definition h k) (suc i) d at = body_derives k i d at

-- ---- the expansion of a text

module _ (ds : List Declaration) (well : AreNamedWell ds) where
  abbrev all : List Occurrence
  all = names_in ds

  abbrev defined : List Definition
  defined = definitions_in ds

  abbrev named : List ℕ → Option Definition
  named = named_in defined

  abbrev count : ℕ
  count = length defined

  abbrev whole : List SectionSyntax → List SectionSyntax
  whole = expanded_sections (expansion_within named count)

  pub rank : List ℕ → ℕ
  rank = (ranks_are ds well.once well.acyclic).0

  declared : AllByRecursion (IsWellDeclared named rank count) ds
  unfolding rank
  declared = text_well ds rank count well.once well.kinds well.arities (ranks_are ds well.once well.acyclic).1

  pub ranked : AreRanked named rank
  ranked = text_ranked ds rank count declared

  plainly : AllByRecursion (IsPlainlyUsed all named rank) ds
  plainly = text_plain ds rank well.kinds well.arities

  bodies_plain : (x : List ℕ) (d : Definition) → named x ≡ Some d → Plain (InBody (Passing (occurs_plain all)) d.parameters) named rank d.body
  bodies_plain x d found =
      let at = named_at defined x d found in
      body_plain all named rank ds at.0 d at.1 plainly

  -- the formula in which each use is replaced
  abbrev replaced : FormulaSyntax → FormulaSyntax
  replaced = expanded (expansion_within named count) (λ x. x)

  -- what follows for each of them
  of_whole : (P Q R : FormulaSyntax → Type 0) → ((f : FormulaSyntax) → P f → Q f → R (replaced f)) → (ss : List SectionSyntax) →
      EachFormula P ss → EachFormula Q ss → EachFormula R (whole ss)
  of_whole P Q R from ss ps qs =
      each_map (λ s. AllByRecursion R s.formulas) (expanded_section (expansion_within named count)) ss
      (each_both (λ s. AllByRecursion P s.formulas) (λ s. AllByRecursion Q s.formulas) _
      (λ s p q. each_map R replaced s.formulas (each_both P Q (λ f. R (replaced f)) from s.formulas p q)) ss ps qs)

  well_used : SectionsUseWell named rank count (sections_among ds)
  well_used = among_sections (IsWellDeclared named rank count) _ (λ s h. h) ds declared

  module _ {levels_left : ℕ} {xs own : List Terminal} (derived : AreDeclarations levels_left xs own ds) where
    bodies : BodiesDerive named
    bodies x d found =
        let at = named_at defined x d found in
        body_derives derived at.0 d at.1

    -- the expanded sections are those in whose formulas each use is replaced
    pub sections_are : (r : ℕ) (ys : List Terminal) (rs : List SectionSyntax) → Expands (as_written named) own ys → AreSections r ys rs →
        (rs ≡ whole (sections_among ds)) × FormulasDerive r (whole (sections_among ds))
    sections_are r ys rs to h =
        one_expansion_of_sections named rank ranked count bodies r (sections_among ds) rs (sections_derive derived)
        well_used to h

    -- each name of the expanded sections is used as at some plain occurrence
    pub expanded_names : (r : ℕ) (ys : List Terminal) (rs : List SectionSyntax) → Expands (as_written named) own ys → AreSections r ys rs →
        EachFormula (Occurs (Passing (occurs_plain all))) rs
    expanded_names r ys rs to h =
        subst (EachFormula (Occurs (Passing (occurs_plain all)))) (sym (sections_are r ys rs to h).0)
        (of_whole (UsesWell named rank count) (Plain (Passing (occurs_plain all)) named rank) (Occurs (Passing (occurs_plain all)))
        (no_new_use named rank (Passing (occurs_plain all)) ranked bodies_plain count) (sections_among ds) well_used
        (among_sections (IsPlainlyUsed all named rank) _ (λ s h. h) ds plainly))

  -- ---- levels

  -- no formula of a section needs a level above the deepest one, in the text as it is written
  items_derivable : {levels_left : ℕ} {xs : List Terminal} {fs : List FormulaSyntax} → AreItems levels_left xs fs →
      AllByRecursion (λ f. Derivable f × (depth f ≤ levels_left)) fs
  items_derivable nothing = tt
  items_derivable {levels_left = levels_left} (last_item {xs = xs} h) = ((record { levels_left = levels_left; terminals = xs; derived = h }, formula_fits h), tt)
  items_derivable {levels_left = levels_left} (item {xs = xs} h k) = ((record { levels_left = levels_left; terminals = xs; derived = h }, formula_fits h), items_derivable k)

  sections_derivable : {levels_left : ℕ} {xs own : List Terminal} {es : List Declaration} → AreDeclarations levels_left xs own es →
      EachFormula (λ f. Derivable f × (depth f ≤ levels_left)) (sections_among es)
  sections_derivable no_declaration = tt
  sections_derivable (a_section (braces head items) k) = (items_derivable items, sections_derivable k)
  sections_derivable (a_definition h k) = sections_derivable k

  module _ {xs own : List Terminal} (derived : AreDeclarations deepest_level xs own ds) where
    -- a formula whose uses are within the levels derives with them
    formula_derives : (levels : List ℕ) → AreLevels (heads_of ds) levels defined → (f : FormulaSyntax) → Derivable f → depth f ≤ deepest_level →
        AreWithin deepest_level (levels_for (heads_of ds) levels) (uses_at 0 f) →
        FormulaDerives deepest_level (expanded (expansion_within named count) (λ x. x) f)
    formula_derives levels are f derivable shallow fitting =
        let needs = levels_for (heads_of ds) levels in
        let stopped : 0 + fold_by depths needs f ≤ deepest_level =
        formula_is_within deepest_level needs 0 f (omega (arith, shallow)) fitting in
        let same : min LEVELS_STOP (fold_by depths needs f) ≡ min LEVELS_STOP (fold_by depths (number_in depths defined) f) =
        formula_stopped LEVELS_STOP depths (depths_stop LEVELS_STOP) needs (number_in depths defined) f
        (each_from_places _ (used_names f) (λ i x at. are x)) in
        expansion_derives named (bodies derived) count f derivable deepest_level (omega (arith, stopped, same))

    -- where no use is too deep, the text expands, and the expansion derives within the levels
    pub expansion_fits : (levels : List ℕ) → AreLevels (heads_of ds) levels defined → position (is_deep_use (heads_of ds) levels) all ≡ None →
        (ys : List Terminal) × Expands (as_written named) own ys × AreSections deepest_level ys (whole (sections_among ds))
    expansion_fits levels are deep =
        sections_expand named rank ranked count deepest_level (sections_among ds) (sections_derive derived)
        well_used (of_whole (λ f. Derivable f × (depth f ≤ deepest_level)) (λ f. AreWithin deepest_level (levels_for (heads_of ds) levels) (uses_at 0 f))
        (FormulaDerives deepest_level) (λ f d fit. formula_derives levels are f d.0 d.1 fit) (sections_among ds) (sections_derivable derived)
        (among_sections (UsesFit (heads_of ds) levels) _ (λ s h. h) ds (text_fits ds (heads_of ds) levels well.kinds well.arities deep)))

    -- ---- and the reverse

    abbrev needs : List ℕ → Option ℕ
    needs = number_in depths defined

    from_zero : {m n : ℕ} → m ≤ n → 0 + m ≤ n
    from_zero h = omega (arith, h)

    abbrev heads : List Name
    heads = heads_of ds

    abbrev Within : Occurrence → Type 0
    Within = IsWithin needs (of_section heads)

    formulas_within : (fs : List FormulaSyntax) → AllByRecursion (FormulaDerives deepest_level) (map replaced fs) →
        AllByRecursion Within (flat_map (formula_occurrences (of_section heads) 0) fs)
    formulas_within fs derive =
        each_flat_map Within (formula_occurrences (of_section heads) 0) fs
        (each_weaker (λ f. FormulaDerives deepest_level (replaced f)) (λ f. AllByRecursion Within (formula_occurrences (of_section heads) 0 f))
        (λ f d. names_within needs (of_section heads) 0 f
        (uses_are_within deepest_level needs 0 f (from_zero (expansion_needs named (bodies derived) count f deepest_level d))))
        fs (each_unmapped (FormulaDerives deepest_level) replaced fs derive))

    in_head_within : (o : Occurrence) → o.in_section ≡ false → Within o
    in_head_within o e = other_within needs (of_section heads) o e

    declarations_within : (before : List Name) (es : List Declaration) → FormulasDerive deepest_level (whole (sections_among es)) →
        AllByRecursion Within (occurrences_behind heads before es)
    declarations_within before [] derive = tt
    declarations_within before (the_section s ∷ es) derive =
        each_joined Within (section_occurrences heads s) (occurrences_behind heads before es) (formulas_within s.formulas derive.0)
        (declarations_within before es derive.1)
    declarations_within before (the_definition d ∷ es) derive =
        let named_parameter = parameter_name (is_name heads) (is_repeated d.parameters) in
        each_joined Within (definition_occurrences heads before d) (occurrences_behind heads (with_use before (head_of d)) es) (
          in_head_within (head_name before d) refl,
          each_joined Within (map named_parameter d.parameters) (formula_occurrences (of_body heads d.parameters) 0 d.body)
              (each_map Within named_parameter d.parameters
              (each_from_places _ d.parameters (λ i p at. in_head_within (named_parameter p) refl)))
              (body_within needs (of_body heads d.parameters) refl 0 d.body),
        ) (declarations_within (with_use before (head_of d)) es derive)

    -- where what the text expands to derives within the levels, no use is too deep
    pub no_deep_use : (ys : List Terminal) (rs : List SectionSyntax) → Expands (as_written named) own ys → AreSections deepest_level ys rs →
        list_all (λ o. not (is_use_too_deep defined o)) all ≡ true
    no_deep_use ys rs to h = list_all_from_each _ all (declarations_within [] ds (sections_are derived deepest_level ys rs to h).1)
