-- The first use of a name, as the sections of a text write it, that is not like the first use of its name.
use Rattle.std.specs.Prelude.{◌≡◌, ℕ, Bool, List, Some, map, slice_get}
use Rattle.std.specs.List.{AllByRecursion}
use Rattle.tsl_text.specs.declared.Token.{Token}
use Rattle.tsl_text.specs.declared.TokenKind.TheVariants.{Equals}
use Rattle.tsl_terms.specs.Name.{Name}
use Rattle.tsl_terms.specs.Clashes.{IsFirstClash, HasNoClash, alike_in_kind, same_arity}
use Rattle.spec_syntax.specs.Syntax.{Terminal, SectionSyntax, Declaration, the_section}
use Rattle.spec_syntax.specs.Grammar.{AreSections}
use Rattle.spec_syntax.specs.Texts.{terminals}
use Rattle.tsl_reader.specs.Naming.{written_uses}
use Rattle.tsl_reader.specs.Spells.{deepest_level, name_tokens}

-- Of the written uses, which the name tokens of the text are in order, the first one that clashes begins and ends at these offsets.
pub record IsFirstClashAt (alike : Name → Name →
    Bool) (text : List ℕ) (tokens : List Token) (ss : List SectionSyntax) (start end : ℕ) : Type 0 where
  pub at : ℕ
  pub first : IsFirstClash alike (written_uses ss) at
  pub token : Token
  pub there : slice_get (name_tokens text tokens) at ≡ Some token
  pub starts : start ≡ token.start
  pub ends : end ≡ token.end

-- no token is `=`, which stands in definitions alone
abbrev pub HasNoEquals : List Token → Type 0
HasNoEquals tokens = AllByRecursion (λ t. t.kind ≡ Equals → ⊥) tokens

-- The declarations are sections and no definition, and these derive from all terminals of the text.
pub record AreSectionsAlone (levels_left : ℕ) (xs own : List Terminal) (declarations : List Declaration) : Type 0 where
  pub sections : List SectionSyntax
  pub all : declarations ≡ map the_section sections
  pub whole : own ≡ xs
  pub derived : AreSections levels_left xs sections

-- The text is sections, and the first of their uses that is of another kind than the first use of its name stands at these offsets.
pub record HasKindClash (text : List ℕ) (tokens : List Token) (start end : ℕ) : Type 0 where
  pub sections : List SectionSyntax
  pub derived : AreSections deepest_level (terminals text tokens) sections
  pub clash : IsFirstClashAt alike_in_kind text tokens sections start end

-- The text is sections, no use is of another kind than the first use of its name, and the first that has another number of arguments
-- stands at these offsets.
pub record HasArityClash (text : List ℕ) (tokens : List Token) (start end : ℕ) : Type 0 where
  pub sections : List SectionSyntax
  pub derived : AreSections deepest_level (terminals text tokens) sections
  pub kinds : HasNoClash alike_in_kind (written_uses sections)
  pub clash : IsFirstClashAt same_arity text tokens sections start end
