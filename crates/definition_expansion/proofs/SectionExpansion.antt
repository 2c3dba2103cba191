-- The text of sections expands to the text of the sections in which each use is replaced, and to no other.
use Rattle.std.proofs.Common.{◌≡◌, ℕ, ◌≤◌, max, List, [], ◌∷◌, ◌++◌, map, Option, refl, sym, subst, arith}
use Rattle.std.specs.List.{AllByRecursion}
use Rattle.base_library.proofs.Each.{each_weaker}
use Rattle.tsl_text.specs.declared.TokenKind.TheVariants.{OpenBrace, CloseBrace, Semicolon}
use Rattle.spec_syntax.specs.declared.syntax.Word.TheVariants.{Assume, Guarantee, Always, Initially}
use Rattle.spec_syntax.specs.declared.syntax.Part.{Part}
use Rattle.spec_syntax.specs.Syntax.{Terminal, word, mark, FormulaSyntax, SectionSyntax, Definition}
use Rattle.spec_syntax.specs.Grammar.{IsFormula, AreItems, nothing as no_item, last_item, item, IsHead, assume, guarantee, initially_assume, initially_guarantee, always_assume, always_guarantee, IsSection, braces, AreSections, no_section, section}
use Rattle.spec_syntax.specs.Written.{written}
use Rattle.spec_syntax.proofs.Written.{formula_is}
use Rattle.spec_syntax.proofs.Lift.{lift_formula, lift_sections}
use Rattle.spec_syntax.proofs.ExactSections.{one_tree}
use Rattle.definition_expansion.specs.Expansion.{expanded, expansion_within}
use Rattle.definition_expansion.specs.TextExpansion.{Expands, nothing, kept}
use Rattle.definition_expansion.specs.WellUsed.{as_written, UsesWell, AreRanked}
use Rattle.definition_expansion.specs.Folds.{fold_by, number_within, depths}
use Rattle.definition_expansion.specs.Derivable.{FormulaDerives, BodiesDerive}
use Rattle.definition_expansion.specs.SectionExpansion.{expanded_section, expanded_sections, SectionsUseWell, FormulasDerive}
use Rattle.definition_expansion.proofs.TextLaws.{both_expand, text_expands}
use Rattle.definition_expansion.proofs.LevelLaws.{expansion_derives}
use Rattle.definition_expansion.proofs.OneExpansion.{one_expansion}

-- a formula that derives from some terminals does from what it is written with
as_it_is_written : {levels_left : ℕ} {xs : List Terminal} {f : FormulaSyntax} → IsFormula levels_left xs f → FormulaDerives levels_left f
as_it_is_written {levels_left = levels_left} {f = f} h = subst (λ ts. IsFormula levels_left ts f) (formula_is h) h

-- ---- what derives from sections

items_derive : {levels_left : ℕ} {xs : List Terminal} {fs : List FormulaSyntax} → AreItems levels_left xs fs →
    AllByRecursion (FormulaDerives levels_left) fs
items_derive no_item = tt
items_derive (last_item h) = (as_it_is_written h, tt)
items_derive (item h k) = (as_it_is_written h, items_derive k)

formulas_derive : {levels_left : ℕ} {xs : List Terminal} {ss : List SectionSyntax} → AreSections levels_left xs ss → FormulasDerive levels_left ss
formulas_derive no_section = tt
formulas_derive (section (braces head items) more) = (items_derive items, formulas_derive more)

-- more levels are as good

more_for_items : {levels_left r : ℕ} → levels_left ≤ r → (fs : List FormulaSyntax) → AllByRecursion (FormulaDerives levels_left) fs →
    AllByRecursion (FormulaDerives r) fs
more_for_items few fs h = each_weaker _ _ (λ f. lift_formula few) fs h

more_for_sections : {levels_left r : ℕ} → levels_left ≤ r → (ss : List SectionSyntax) → FormulasDerive levels_left ss → FormulasDerive r ss
more_for_sections few ss h = each_weaker _ _ (λ s. more_for_items few s.formulas) ss h

-- ---- the expansion

module _ (all : List ℕ → Option Definition) (rank : List ℕ → ℕ) (ranked : AreRanked all rank) (n : ℕ) where
  -- what a formula, and sections, stand for
  abbrev whole : FormulaSyntax → FormulaSyntax
  whole = expanded (expansion_within all n) (λ x. x)

  abbrev all_whole : List SectionSyntax → List SectionSyntax
  all_whole = expanded_sections (expansion_within all n)

  -- terminals that these expand to, from which those are
  abbrev ExpandsTo : List Terminal → (List Terminal → Type 0) → Type 0
  ExpandsTo xs Are = (ys : List Terminal) × Expands (as_written all) xs ys × Are ys

  head_expands : {xs : List Terminal} {part : Part} → IsHead xs part → Expands (as_written all) xs xs
  head_expands assume = kept (word Assume) refl nothing
  head_expands guarantee = kept (word Guarantee) refl nothing
  head_expands initially_assume = kept (word Initially) refl (kept (word Assume) refl nothing)
  head_expands initially_guarantee = kept (word Initially) refl (kept (word Guarantee) refl nothing)
  head_expands always_assume = kept (word Always) refl (kept (word Assume) refl nothing)
  head_expands always_guarantee = kept (word Always) refl (kept (word Guarantee) refl nothing)

  formula_text : {levels_left : ℕ} {xs : List Terminal} (f : FormulaSyntax) → IsFormula levels_left xs f → UsesWell all rank n f →
      Expands (as_written all) xs (written (whole f))
  formula_text f h well = subst (λ ts. Expands (as_written all) ts (written (whole f))) (sym (formula_is h)) (text_expands all rank ranked n f well)

  items_expand : {levels_left : ℕ} (r : ℕ) {xs : List Terminal} {fs : List FormulaSyntax} → AreItems levels_left xs fs →
      AllByRecursion (UsesWell all rank n) fs → AllByRecursion (FormulaDerives r) (map whole fs) →
      ExpandsTo xs (λ ys. AreItems r ys (map whole fs))
  items_expand r no_item well fit = ([], nothing, no_item)
  items_expand r (last_item {f = f} h) well fit = (written (whole f), formula_text f h well.0, last_item fit.0)
  items_expand r (item {xs = xs} {f = f} h k) well fit =
      let rest = items_expand r k well.1 fit.1 in (
        written (whole f) ++ mark Semicolon ∷ rest.0,
        both_expand all rank (formula_text f h well.0) (kept (mark Semicolon) refl rest.1),
        item fit.0 rest.2,
      )

  section_expands : {levels_left : ℕ} (r : ℕ) {xs : List Terminal} {s : SectionSyntax} → IsSection levels_left xs s →
      AllByRecursion (UsesWell all rank n) s.formulas → AllByRecursion (FormulaDerives r) (map whole s.formulas) →
      ExpandsTo xs (λ ys. IsSection r ys (expanded_section (expansion_within all n) s))
  section_expands r (braces {xs = xs} head items) well fit =
      let inner = items_expand r items well fit in (
        xs ++ mark OpenBrace ∷ (inner.0 ++ mark CloseBrace ∷ []),
        both_expand all rank (head_expands head)
            (kept (mark OpenBrace) refl (both_expand all rank inner.1 (kept (mark CloseBrace) refl nothing))),
        braces head inner.2,
      )

  -- where each formula derives with its uses replaced, so do the sections
  pub sections_expand : {levels_left : ℕ} (r : ℕ) {xs : List Terminal} (ss : List SectionSyntax) → AreSections levels_left xs ss →
      SectionsUseWell all rank n ss → FormulasDerive r (all_whole ss) →
      ExpandsTo xs (λ ys. AreSections r ys (all_whole ss))
  sections_expand r ss no_section well fit = ([], nothing, no_section)
  sections_expand r (s ∷ ss) (section h k) well fit =
      let first = section_expands r h well.0 fit.0 in
      let rest = sections_expand r ss k well.1 fit.1 in
      (first.0 ++ rest.0, both_expand all rank first.1 rest.1, section first.2 rest.2)

  -- ---- there are levels enough

  module _ (bodies : BodiesDerive all) where
    room_for_items : {levels_left : ℕ} {xs : List Terminal} {fs : List FormulaSyntax} → AreItems levels_left xs fs →
        (r : ℕ) × AllByRecursion (FormulaDerives r) (map whole fs)
    room_for_items no_item = (0, tt)
    room_for_items {levels_left = levels_left} (last_item {xs = xs} {f = f} h) =
        let r = fold_by depths (number_within depths all n) f in
        (r, (expansion_derives all bodies n f (record { levels_left = levels_left; terminals = xs; derived = h }) r (omega arith), tt))
    room_for_items {levels_left = levels_left} (item {xs = xs} {f = f} {fs = fs} h k) =
        let r = fold_by depths (number_within depths all n) f in
        let rest = room_for_items k in
        let here = expansion_derives all bodies n f (record { levels_left = levels_left; terminals = xs; derived = h }) r (omega arith) in
        (max r rest.0, (lift_formula (omega arith) here, more_for_items (omega arith) (map whole fs) rest.1))

    room_for_sections : {levels_left : ℕ} {xs : List Terminal} (ss : List SectionSyntax) → AreSections levels_left xs ss →
        (r : ℕ) × FormulasDerive r (all_whole ss)
    room_for_sections ss no_section = (0, tt)
    room_for_sections (s ∷ ss) (section (braces head items) k) =
        let first = room_for_items items in
        let rest = room_for_sections ss k in (
          max first.0 rest.0,
          (more_for_items (omega arith) (map whole s.formulas) first.1, more_for_sections (omega arith) (all_whole ss) rest.1),
        )

    -- what the text of sections expands to derives from nothing else
    pub one_expansion_of_sections : {levels_left : ℕ} (r : ℕ) {xs ys : List Terminal} (ss rs : List SectionSyntax) → AreSections levels_left xs ss →
        SectionsUseWell all rank n ss → Expands (as_written all) xs ys → AreSections r ys rs →
        (rs ≡ all_whole ss) × FormulasDerive r (all_whole ss)
    one_expansion_of_sections r {xs = xs} {ys = ys} ss rs h well to derived =
        let enough = room_for_sections ss h in
        let made = sections_expand enough.0 ss h well enough.1 in
        let same : made.0 ≡ ys = one_expansion (as_written all) xs made.0 ys made.1 to in
        let wide = lift_sections {r = max r enough.0} (omega arith) (subst (λ ts. AreSections enough.0 ts (all_whole ss)) same made.2) in
        let tree : rs ≡ all_whole ss = one_tree (max r enough.0) ys rs (all_whole ss) (lift_sections (omega arith) derived) wide in
        (tree, subst (FormulasDerive r) tree (formulas_derive derived))
