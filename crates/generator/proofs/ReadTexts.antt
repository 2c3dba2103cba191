-- A text of responses spells a specification where its tokens, names and formulas compute.
use Rattle.std.proofs.Common.{◌≡◌, ℕ, zero, suc, ◌==◌, ◌≤◌, Bool, true, false, ◌&&◌, List, [], ◌∷◌, ◌++◌, map, refl, ap, sym, ◌∙◌, subst}
use Rattle.std.specs.Prelude.{Some, if◌then◌else◌, codes, slice_get}
use Rattle.std.specs.List.{list_all}
use Rattle.std.specs.Str.{bytes_eq}
use Rattle.std.proofs.lemmas.Bool.{and_parts, eqb-true, eq-eqb}
use Rattle.std.proofs.lemmas.List.{append-nil}
use Rattle.tsl_text.specs.declared.Token.{Token}
use Rattle.tsl_text.specs.declared.TokenKind.TheVariants.{OpenBrace, CloseBrace, OpenSquare, CloseSquare, Semicolon, LeftArrow, Arrow}
use Rattle.tsl_text.specs.Division.{Part, Divides, tokens_from, lexemes_of}
use Rattle.tsl_text.specs.Lexeme.{name, lexeme_of}
use Rattle.tsl_text.proofs.Parts.{lexemes as lexemes_of_tokens}
use Rattle.tsl_terms.specs.Name.{Name, same_kind}
use Rattle.tsl_terms.specs.declared.names.NameKind.{NameKind}
use Rattle.tsl_terms.specs.declared.names.NameKind.TheVariants.{Signal, Function, Predicate}
use Rattle.tsl_terms.specs.declared.operator.UnaryOperator.TheVariants.{Finally}
use Rattle.tsl_terms.specs.declared.operator.BinaryOperator.TheVariants.{Implication}
use Rattle.tsl_terms.specs.Clashes.{alike_in_kind, same_arity, HasNoClash}
use Rattle.tsl_terms.specs.FormulaTree.{FormulaTree}
use Rattle.tsl_terms.specs.Nodes.{nodes}
use Rattle.tsl_terms.specs.SpecTree.{SpecTree, whole_formula}
use Rattle.spec_syntax.specs.Syntax.{Terminal, free, mark, terminal_of, alone, applied, no_terms, more_terms, FormulaSyntax, tested}
use Rattle.spec_syntax.specs.Syntax.{updated, under, between, SectionSyntax}
use Rattle.spec_syntax.specs.Grammar as grammar
use Rattle.spec_syntax.specs.Grammar.{IsFormula, AreItems, IsSection, AreSections}
use Rattle.tsl_reader.specs.Naming.{written_uses, names_of, numbered_list}
use Rattle.spec_syntax.specs.Texts.{terminal_at, terminals}
use Rattle.tsl_reader.specs.Spells.{Spells, deepest_level, most_formula_nodes}
use Rattle.tsl_reader.proofs.WithoutDefinitions.{derived_alone}

-- ---- the grammar

-- a reserved word
abbrev word : List ℕ → Terminal
word text = terminal_of (name text)

-- `req r -> F [g <- pick r]`
abbrev response_terminals : List ℕ → List Terminal
response_terminals r =
    free (codes "req") ∷ free r ∷ mark Arrow ∷ word (codes "F") ∷ mark OpenSquare ∷ free (codes "g") ∷ mark LeftArrow ∷ free (codes "pick") ∷ free r
    ∷ mark CloseSquare ∷ []

abbrev pub response : List ℕ → FormulaSyntax
response r =
    between Implication (tested (codes "req") (more_terms (alone r) no_terms))
    (under Finally (updated (codes "g") (applied (codes "pick") (more_terms (alone r) no_terms))))

is_formula : (r : List ℕ) → IsFormula deepest_level (response_terminals r) (response r)
is_formula r =
    grammar.chain (grammar.no_iff (grammar.imp
    (grammar.disjunction (grammar.conjunction (grammar.atom (grammar.test (codes "req") (grammar.one_argument (grammar.signal_argument r))))
    grammar.no_conjunct) grammar.no_disjunct)
    (grammar.no_imp (grammar.disjunction (grammar.conjunction (grammar.prefix Finally (word (codes "F")) refl (grammar.atom (grammar.update (codes "g")
    (grammar.application (codes "pick") (grammar.one_argument (grammar.signal_argument r)))))) grammar.no_conjunct) grammar.no_disjunct))))

abbrev items_terminals : List (List ℕ) → List Terminal
items_terminals [] = []
items_terminals (r ∷ rs) = response_terminals r ++ mark Semicolon ∷ items_terminals rs

pub are_items : (rs : List (List ℕ)) → AreItems deepest_level (items_terminals rs) (map response rs)
are_items [] = grammar.nothing
are_items (r ∷ rs) = grammar.item (is_formula r) (are_items rs)

abbrev pub text_terminals : List (List ℕ) → List Terminal
text_terminals rs = word (codes "always") ∷ word (codes "guarantee") ∷ mark OpenBrace ∷ (items_terminals rs ++ mark CloseBrace ∷ [])

-- the one section, whose formulas are always guaranteed
abbrev is_section : (rs : List (List ℕ)) → (s : SectionSyntax) × IsSection deepest_level (text_terminals rs) s
is_section rs = (_, grammar.braces grammar.always_guarantee (are_items rs))

abbrev pub section_of : List (List ℕ) → SectionSyntax
section_of rs = (is_section rs).0

are_sections : (rs : List (List ℕ)) → AreSections deepest_level (text_terminals rs) (section_of rs ∷ [])
are_sections rs =
    subst (λ xs. AreSections deepest_level xs (section_of rs ∷ [])) (append-nil (text_terminals rs))
    (grammar.section (is_section rs).1 grammar.no_section)

each_terminal : (text : List ℕ) (tokens : List Token) → terminals text tokens ≡ map terminal_of (map (lexeme_of text) tokens)
each_terminal text [] = refl
each_terminal text (t ∷ tokens) = ap (λ xs. terminal_at text t ∷ xs) (each_terminal text tokens)

-- ---- the names

-- what each name is used as
abbrev kind_of : List ℕ → NameKind
kind_of text = if bytes_eq text (codes "req") then Predicate else (if bytes_eq text (codes "pick") then Function else Signal)

abbrev arity_of : List ℕ → ℕ
arity_of text = if bytes_eq text (codes "req") then 1 else (if bytes_eq text (codes "pick") then 1 else 0)

abbrev pub is_as_meant : Name → Bool
is_as_meant n = same_kind n.kind (kind_of n.text) && (n.arity == arity_of n.text)

both_of_kind : (a b c : NameKind) → same_kind a c ≡ true → same_kind b c ≡ true → same_kind a b ≡ true
both_of_kind Signal Signal c h k = refl
both_of_kind Function Function c h k = refl
both_of_kind Predicate Predicate c h k = refl
both_of_kind Signal Function Signal h k = cc
both_of_kind Signal Function Function h k = cc
both_of_kind Signal Function Predicate h k = cc
both_of_kind Signal Predicate Signal h k = cc
both_of_kind Signal Predicate Function h k = cc
both_of_kind Signal Predicate Predicate h k = cc
both_of_kind Function Signal Signal h k = cc
both_of_kind Function Signal Function h k = cc
both_of_kind Function Signal Predicate h k = cc
both_of_kind Function Predicate Signal h k = cc
both_of_kind Function Predicate Function h k = cc
both_of_kind Function Predicate Predicate h k = cc
both_of_kind Predicate Signal Signal h k = cc
both_of_kind Predicate Signal Function h k = cc
both_of_kind Predicate Signal Predicate h k = cc
both_of_kind Predicate Function Signal h k = cc
both_of_kind Predicate Function Function h k = cc
both_of_kind Predicate Function Predicate h k = cc

one_kind : (m n : Name) → is_as_meant m ≡ true → is_as_meant n ≡ true → m.text ≡ n.text → alike_in_kind m n ≡ true
one_kind m n h k same =
    let one = (and_parts _ _ h).0 in
    let other = (and_parts _ _ k).0 in
    both_of_kind m.kind n.kind (kind_of m.text) one (ap (λ t. same_kind n.kind (kind_of t)) same ∙ other)

one_arity : (m n : Name) → is_as_meant m ≡ true → is_as_meant n ≡ true → m.text ≡ n.text → same_arity m n ≡ true
one_arity m n h k same =
    let one = eqb-true _ _ (and_parts _ _ h).1 in
    let other = eqb-true _ _ (and_parts _ _ k).1 in
    eq-eqb m.arity n.arity (one ∙ ap arity_of same ∙ sym other)

as_meant_at : (us : List Name) (i : ℕ) (u : Name) → list_all is_as_meant us ≡ true → slice_get us i ≡ Some u → is_as_meant u ≡ true
as_meant_at [] i u all there = cc
as_meant_at (v ∷ us) zero u all there =
    let same : v ≡ u = cc in
    ap is_as_meant (sym same) ∙ (and_parts _ _ all).0
as_meant_at (v ∷ us) (suc i) u all there = as_meant_at us i u (and_parts _ _ all).1 there

no_clash : (alike : Name → Name → Bool) →
    ((m n : Name) → is_as_meant m ≡ true → is_as_meant n ≡ true → m.text ≡ n.text → alike m n ≡ true) →
    (us : List Name) → list_all is_as_meant us ≡ true → HasNoClash alike us
no_clash alike same us all at clash =
    let first = as_meant_at us clash.first_at clash.first all clash.first_there in
    let usage = as_meant_at us at clash.usage all clash.use_there in
    let e : true ≡ false = sym (same clash.first clash.usage first usage clash.same_name) ∙ clash.differs in
    cc

-- ---- the specification

abbrev pub spec_of : List (List ℕ) → List FormulaTree → SpecTree
spec_of rs formulas = record {
  names = names_of (section_of rs ∷ []);
  assume_first = [];
  assume_always = [];
  guarantee_first = [];
  guarantee_always = formulas;
}

pub is_spelled : (text : List ℕ) (rs : List (List ℕ)) (parts : List Part) (formulas : List FormulaTree) → Divides text parts [] →
    map terminal_of (lexemes_of parts) ≡ text_terminals rs → list_all is_as_meant (written_uses (section_of rs ∷ [])) ≡ true →
    numbered_list (names_of (section_of rs ∷ [])) (map response rs ++ []) ≡ Some formulas →
    nodes (whole_formula (spec_of rs formulas)) ≤ most_formula_nodes → Spells text (spec_of rs formulas)
is_spelled text rs parts formulas divides are meant numbered few = record {
  few_nodes = few;
  derived = derived_alone text (spec_of rs formulas) (tokens_from 0 parts) (section_of rs ∷ [])
      (record { parts = parts; divides = divides; places = refl })
      (subst (λ xs. AreSections deepest_level xs (section_of rs ∷ []))
      (sym (each_terminal text (tokens_from 0 parts) ∙ ap (map terminal_of) (lexemes_of_tokens text parts divides) ∙ are)) (are_sections rs))
      (no_clash alike_in_kind one_kind (written_uses (section_of rs ∷ [])) meant)
      (no_clash same_arity one_arity (written_uses (section_of rs ∷ [])) meant) refl refl refl refl numbered;
}
