-- A text without the token `=` has no definition, so its first wrong name is told of its sections.
use Rattle.std.proofs.Common.{◌≡◌, ℕ, List, [], ◌∷◌, ◌++◌, map, refl, ap, subst}
use Rattle.std.proofs.Common.{◌↔◌}
use Rattle.std.specs.Prelude.{Option, Some, None}
use Rattle.std.specs.List.{AllByRecursion}
use Rattle.base_library.proofs.Each.{each_left, each_right, each_between, each_map, each_weaker}
use Rattle.tsl_text.specs.declared.Token.{Token}
use Rattle.tsl_text.specs.declared.TokenKind.{TokenKind}
use Rattle.tsl_text.specs.declared.TokenKind.TheVariants.{Name, Equals, Semicolon}
use Rattle.tsl_text.specs.Lexeme.{lexeme_from, token_text}
use Rattle.tsl_text.specs.Division.{AreTokens}
use Rattle.tsl_text.proofs.OneAnswer.{one_list}
use Rattle.spec_syntax.specs.declared.syntax.Word.{Word}
use Rattle.spec_syntax.specs.Syntax.{Terminal, free, mark, free_unless, terminal_of, word_of, Definition, Declaration, the_section}
use Rattle.spec_syntax.specs.Grammar.{no_section, section, IsDefinition, equation, AreDeclarations, no_declaration, a_section}
use Rattle.spec_syntax.specs.Grammar.{a_definition}
use Rattle.spec_syntax.specs.Texts.{terminal_at, terminals}
use Rattle.tsl_reader.specs.Spells.{deepest_level, Derives, HasHeadFault, HasCycleFault, HasKindFault, HasArityFault, HasDeepUse}
use Rattle.tsl_reader.specs.WrittenClashes.{HasNoEquals, AreSectionsAlone, HasKindClash, HasArityClash}
use Rattle.tsl_reader.proofs.WrittenClashes.{kinds_told, arities_told, none_redefines, none_on_cycle, none_too_deep}

-- ---- terminals

abbrev IsNoEquals : Terminal → Type 0
IsNoEquals x = x ≡ mark Equals → ⊥

-- a name is no mark
no_mark : (x : List ℕ) (o : Option Word) → free_unless x o ≡ mark Equals → ⊥
no_mark x None h = cc
no_mark x (Some w) h = cc

kind_of : (kind : TokenKind) (x : List ℕ) → terminal_of (lexeme_from kind x) ≡ mark Equals → kind ≡ Equals
kind_of Name x h = absurd (no_mark x (word_of x) h)
kind_of kind x h = cc

no_equals : (text : List ℕ) (tokens : List Token) → HasNoEquals tokens → AllByRecursion IsNoEquals (terminals text tokens)
no_equals text tokens none =
    each_map IsNoEquals (terminal_at text) tokens
    (each_weaker (λ (t : Token). t.kind ≡ Equals → ⊥) (λ t. IsNoEquals (terminal_at text t))
    (λ t not_it is. not_it (kind_of t.kind (token_text text t) is)) tokens none)

-- ---- declarations

equals_stands : {levels_left : ℕ} {xs : List Terminal} {d : Definition} → IsDefinition levels_left xs d → AllByRecursion IsNoEquals xs → ⊥
equals_stands (equation {xs = xs} x ps h) none = each_between IsNoEquals (map free ps) (mark Equals) (xs ++ mark Semicolon ∷ []) none.1 refl

sections_alone : {levels_left : ℕ} {xs own : List Terminal} {ds : List Declaration} → AreDeclarations levels_left xs own ds →
    AllByRecursion IsNoEquals xs → AreSectionsAlone levels_left xs own ds
sections_alone no_declaration none = record { sections = []; all = refl; whole = refl; derived = no_section }
sections_alone (a_section {xs = xs} {ys = ys} {s = s} h k) none =
    let rest = sections_alone k (each_right IsNoEquals xs ys none) in
    record {
      sections = s ∷ rest.sections;
      all = ap (λ ds. the_section s ∷ ds) rest.all;
      whole = ap (λ zs. xs ++ zs) rest.whole;
      derived = section h rest.derived;
    }
sections_alone (a_definition {xs = xs} {ys = ys} h k) none = absurd (equals_stands h (each_left IsNoEquals xs ys none))

pub declared_alone : (text : List ℕ) (tokens : List Token) (own : List Terminal) (ds : List Declaration) → HasNoEquals tokens →
    Derives text tokens own ds → AreSectionsAlone deepest_level (terminals text tokens) own ds
declared_alone text tokens own ds none d = sections_alone d.derived (no_equals text tokens none)

-- ---- what is told

module _ (text : List ℕ) (tokens : List Token) (start end : ℕ) (are : AreTokens text tokens) (none : HasNoEquals tokens) where
  -- what any reading of the text derives from, these tokens derive from
  of_text : {ts : List Token} {own : List Terminal} {ds : List Declaration} → Derives text ts own ds →
      AreSectionsAlone deepest_level (terminals text tokens) own ds
  of_text {ts = ts} {own = own} {ds = ds} d =
      declared_alone text tokens own ds none (subst (λ us. Derives text us own ds) (one_list text ts tokens d.tokens_are are) d)

  pub kinds_alone : HasKindFault text start end ↔ HasKindClash text tokens start end
  kinds_alone = (
    λ h.
        let a = of_text h.derives in
        record {
          sections = a.sections;
          derived = a.derived;
          clash = (kinds_told text tokens a.sections start end are a.derived).0 h;
        },
    λ k. (kinds_told text tokens k.sections start end are k.derived).1 k.clash,
  )

  pub arities_alone : HasArityFault text start end ↔ HasArityClash text tokens start end
  arities_alone = (
    λ h.
        let a = of_text h.derives in
        let told = (arities_told text tokens a.sections start end are a.derived).0 h in
        record { sections = a.sections; derived = a.derived; kinds = told.0; clash = told.1 },
    λ k. (arities_told text tokens k.sections start end are k.derived).1 (k.kinds, k.clash),
  )

  pub never_redefined : HasHeadFault text start end → ⊥
  never_redefined h = let a = of_text h.derives in none_redefines text tokens a.sections start end are a.derived h

  pub never_on_cycle : HasCycleFault text start end → ⊥
  never_on_cycle h = let a = of_text h.derives in none_on_cycle text tokens a.sections start end are a.derived h

  pub never_too_deep : HasDeepUse text start end → ⊥
  never_too_deep h = let a = of_text h.derives in none_too_deep text tokens a.sections start end are a.derived h
