-- The names that the expansion of a text uses are names of the text, and so usable where those are.
use Rattle.std.proofs.Common.{◌≡◌, ℕ, true, List, map, ap, sym, ◌∙◌, subst}
use Rattle.std.specs.Prelude.{◌&&◌, ◌==◌, Some, slice_get, option_map}
use Rattle.std.specs.List.{AllByRecursion}
use Rattle.std.specs.Str.{bytes_eq}
use Rattle.std.proofs.lemmas.Bool.{and_parts}
use Rattle.std.proofs.lemmas.Option.{slice_get-map}
use Rattle.base_library.proofs.Bytes.{same_bytes}
use Rattle.base_library.proofs.Each.{each_at, each_weaker}
use Rattle.base_library.proofs.Passes.{list_any_place}
use Rattle.tsl_text.specs.declared.Token.{Token}
use Rattle.tsl_text.specs.Division.{AreTokens}
use Rattle.tsl_terms.specs.declared.names.NameKind.{NameKind}
use Rattle.tsl_terms.specs.Name.{same_kind}
use Rattle.spec_syntax.specs.Syntax.{Terminal, SectionSyntax, Declaration}
use Rattle.spec_syntax.specs.Grammar.{AreSections, AreDeclarations}
use Rattle.spec_syntax.specs.Texts.{terminals}
use Rattle.definition_expansion.specs.DefinitionView.{named_in}
use Rattle.definition_expansion.specs.TextExpansion.{Expands}
use Rattle.definition_expansion.specs.WellUsed.{as_written}
use Rattle.definition_expansion.specs.Occurrences.{Passing}
use Rattle.name_resolution.specs.Heads.{definitions_in}
use Rattle.name_resolution.specs.Occurrences.{Occurrence}
use Rattle.name_resolution.specs.Faults.{is_plain}
use Rattle.name_resolution.specs.WrittenNames.{free_names}
use Rattle.name_resolution.specs.WellDeclared.{occurs_plain, heads_of, names_in, AreNamedWell}
use Rattle.name_resolution.proofs.WrittenTexts.{occurrences_texts, texts_are_names}
use Rattle.name_resolution.proofs.Expanded.{expanded_names}
use Rattle.tsl_reader.specs.Naming.{all_uses}
use Rattle.tsl_reader.proofs.Usable.{IsUsable, usable_terminals}
use Rattle.tsl_reader.proofs.UsesAreKnown.{UsesAreUsable}
use Rattle.tsl_reader.proofs.UsesStand.{UseStands, uses_stand}

-- the text stands among these
abbrev pub Stands : List (List ℕ) → List ℕ → Type 0
Stands zs x = (k : ℕ) × (slice_get zs k ≡ Some x)

occurring : (all : List Occurrence) (x : List ℕ) (kind : NameKind) (arity : ℕ) → occurs_plain all x kind arity ≡ true →
    Stands (map (λ o. o.text) all) x
occurring all x kind arity h =
    let found = list_any_place (λ o. is_plain o.role && (bytes_eq x o.text && (same_kind kind o.kind && (arity == o.arity)))) all h in
    let o : Occurrence = found.1 in
    let plain = and_parts (is_plain o.role) (bytes_eq x o.text && (same_kind kind o.kind && (arity == o.arity))) found.3 in
    let text = and_parts (bytes_eq x o.text) (same_kind kind o.kind && (arity == o.arity)) plain.1 in
    let there = slice_get-map (λ p. p.text) all found.0 ∙ ap (option_map (λ p. p.text)) found.2 in
    (found.0, there ∙ ap Some (sym (same_bytes x o.text text.0)))

module _ (ds : List Declaration) {levels_left : ℕ} {xs own : List Terminal} (r : ℕ) (ys : List Terminal) (rs : List SectionSyntax)
    (well : AreNamedWell ds) (derived : AreDeclarations levels_left xs own ds)
    (to : Expands (as_written (named_in (definitions_in ds))) own ys) (sections : AreSections r ys rs) where
  -- what is used is a name of the text
  pub used_texts : AllByRecursion (λ u. Stands (map (λ o. o.text) (names_in ds)) u.name.text) (all_uses rs)
  used_texts =
      let all = names_in ds in
      each_weaker (UseStands (Passing (occurs_plain all))) (λ u. Stands (map (λ o. o.text) all) u.name.text)
      (λ u stands. occurring all u.name.text u.name.kind u.name.arity stands.0) (all_uses rs)
      (uses_stand (Passing (occurs_plain all)) rs (expanded_names ds well derived r ys rs to sections))

  pub expanded_uses_are_usable : AllByRecursion IsUsable (free_names xs) → UsesAreUsable rs
  expanded_uses_are_usable usable =
      let texts : map (λ o. o.text) (names_in ds) ≡ free_names xs = occurrences_texts (heads_of ds) levels_left xs own ds derived in
      each_weaker (λ u. Stands (map (λ o. o.text) (names_in ds)) u.name.text) (λ u. IsUsable u.name.text)
      (λ u stands. each_at IsUsable (free_names xs) stands.0 u.name.text usable (ap (λ ts. slice_get ts stands.0) (sym texts) ∙ stands.1))
      (all_uses rs) used_texts

-- the names of a text are usable
pub names_are_usable : (text : List ℕ) (tokens : List Token) → AreTokens text tokens →
    AllByRecursion IsUsable (free_names (terminals text tokens))
names_are_usable text tokens are =
    subst (AllByRecursion IsUsable) (texts_are_names (terminals text tokens)) (usable_terminals text tokens are)
