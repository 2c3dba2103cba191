-- Which specification a text spells, and the cause of each refusal. Definitions with parameters are this project's own addition
-- to the format of specifications.
use Rattle.std.specs.Prelude.{◌≡◌, ℕ, ◌≤◌, ◌<◌, Bool, true, false, List, [], ◌∷◌, ◌++◌, length, filter, Some, None, slice_get, position}
use Rattle.std.specs.Prelude.{◌⊎◌}
use Rattle.tsl_text.specs.declared.Token.{Token}
use Rattle.tsl_text.specs.Division.{AreTokens, HasBadByte, HasOpenComment}
use Rattle.tsl_terms.specs.Nodes.{nodes}
use Rattle.tsl_terms.specs.SpecTree.{SpecTree, whole_formula}
use Rattle.tsl_reader.specs.declared.TheConstants.{MOST_NODES}
use Rattle.tsl_reader.specs.declared.stages.TheConstants.{DEEPEST}
use Rattle.tsl_reader.specs.declared.SpecError.{SpecError}
use Rattle.tsl_reader.specs.declared.SpecError.TheVariants.{Byte, OpenComment, Form, Deep, Defined, Cycle, Kind, Arity, DeepUse}
use Rattle.tsl_reader.specs.declared.SpecError.TheVariants.{Nodes, NoMemory}
use Rattle.spec_syntax.specs.declared.syntax.Part.TheVariants.{AssumeFirst, AssumeAlways, GuaranteeFirst, GuaranteeAlways}
use Rattle.spec_syntax.specs.Syntax.{Terminal, free, word, mark, SectionSyntax, Declaration}
use Rattle.spec_syntax.specs.Grammar.{AreSections, AreDeclarations}
use Rattle.spec_syntax.specs.Texts.{terminal_at, terminals, SomeDeclarationsBegin, NoDeclarationsBegin, AreNoDeclarations}
use Rattle.definition_expansion.specs.DefinitionView.{named_in}
use Rattle.definition_expansion.specs.TextExpansion.{Expands}
use Rattle.definition_expansion.specs.WellUsed.{as_written}
use Rattle.definition_expansion.specs.Uses.{IsFirstOnCycle}
use Rattle.name_resolution.specs.Heads.{definitions_in}
use Rattle.name_resolution.specs.Occurrences.{Occurrence}
use Rattle.name_resolution.specs.Faults.{is_redefined, is_head_of, has_kind_fault, has_arity_fault}
use Rattle.name_resolution.specs.WellDeclared.{heads_of, names_in, NoneOnCycle, AreNamedWell, is_use_too_deep}
use Rattle.tsl_reader.specs.Naming.{names_of, numbered_list, formulas_of_part}

-- the deepest level
abbrev pub deepest_level : ℕ
deepest_level = DEEPEST

-- the most nodes of the whole formula
abbrev pub most_formula_nodes : ℕ
most_formula_nodes = MOST_NODES

-- The text has these tokens, and they derive from these sections and definitions with levels up to 200. The sections' own
-- terminals are those of the text without its definitions.
pub record Derives (text : List ℕ) (tokens : List Token) (own : List Terminal) (declarations : List Declaration) : Type 0 where
  pub tokens_are : AreTokens text tokens
  pub derived : AreDeclarations deepest_level (terminals text tokens) own declarations

-- Everything but the limit on nodes: no name of the text is wrong where it stands; the sections' own terminals expand, each use of
-- a definition by its body; what they expand to derives from sections with levels up to 200; and the specification has the
-- formulas of these in order, with names numbered by first appearance.
pub record IsDerived (text : List ℕ) (spec : SpecTree) : Type 0 where
  pub tokens : List Token
  pub own : List Terminal
  pub declarations : List Declaration
  pub derives : Derives text tokens own declarations
  pub named_well : AreNamedWell declarations
  pub expanded : List Terminal
  pub expands : Expands (as_written (named_in (definitions_in declarations))) own expanded
  pub sections : List SectionSyntax
  pub sections_are : AreSections deepest_level expanded sections
  pub names : spec.names ≡ names_of sections
  pub assume_first : numbered_list spec.names (formulas_of_part AssumeFirst sections) ≡ Some spec.assume_first
  pub assume_always : numbered_list spec.names (formulas_of_part AssumeAlways sections) ≡ Some spec.assume_always
  pub guarantee_first : numbered_list spec.names (formulas_of_part GuaranteeFirst sections) ≡ Some spec.guarantee_first
  pub guarantee_always : numbered_list spec.names (formulas_of_part GuaranteeAlways sections) ≡ Some spec.guarantee_always

-- the text spells the specification
pub record Spells (text : List ℕ) (spec : SpecTree) : Type 0 where
  pub derived : IsDerived text spec
  pub few_nodes : nodes (whole_formula spec) ≤ most_formula_nodes

-- A token begins at this offset. Some text with levels up to 200 begins with the tokens before it, and none with any
-- number of levels begins with the tokens up to and with it.
pub record HasWrongToken (text : List ℕ) (at : ℕ) : Type 0 where
  pub before : List Token
  pub token : Token
  pub after : List Token
  pub tokens_are : AreTokens text (before ++ token ∷ after)
  pub place : at ≡ token.start
  pub begins : SomeDeclarationsBegin deepest_level (terminals text before)
  pub stops : (levels_left : ℕ) → NoDeclarationsBegin levels_left (terminals text (before ++ token ∷ []))

-- The text ends at this offset. Some text with levels up to 200 begins with its tokens, and they are none with any number of
-- levels.
pub record EndsTooEarly (text : List ℕ) (at : ℕ) : Type 0 where
  pub tokens : List Token
  pub tokens_are : AreTokens text tokens
  pub place : at ≡ length text
  pub begins : SomeDeclarationsBegin deepest_level (terminals text tokens)
  pub no_text : (levels_left : ℕ) → AreNoDeclarations levels_left (terminals text tokens)

-- the first token, or the end, at which the text stops to be one of the grammar without a bound on levels
abbrev pub HasFormFault : List ℕ → ℕ → Type 0
HasFormFault text at = HasWrongToken text at ⊎ EndsTooEarly text at

-- A token begins at this offset. Some text with levels up to 200 begins with the tokens before it, and with the tokens up to
-- and with it none does with these levels, but one with more.
pub record HasDeepFault (text : List ℕ) (at : ℕ) : Type 0 where
  pub before : List Token
  pub token : Token
  pub after : List Token
  pub tokens_are : AreTokens text (before ++ token ∷ after)
  pub place : at ≡ token.start
  pub begins : SomeDeclarationsBegin deepest_level (terminals text before)
  pub stops : NoDeclarationsBegin deepest_level (terminals text (before ++ token ∷ []))
  pub levels_left : ℕ
  pub goes_on : SomeDeclarationsBegin levels_left (terminals text (before ++ token ∷ []))

-- whether a token is a name that is no reserved word
abbrev pub is_free : Terminal → Bool
is_free (free text) = true
is_free (word w) = false
is_free (mark kind) = false

-- the tokens of a text that are names and no reserved words, in order
abbrev pub name_tokens : List ℕ → List Token → List Token
name_tokens text tokens = filter (λ t. is_free (terminal_at text t)) tokens

-- Of the names of a text, which its name tokens are in order, the first one that this test tells begins and ends at these offsets.
pub record IsFirstName (is_such : Occurrence →
    Bool) (text : List ℕ) (tokens : List Token) (declarations : List Declaration) (start end : ℕ) : Type 0 where
  pub at : ℕ
  pub first : position is_such (names_in declarations) ≡ Some at
  pub token : Token
  pub there : slice_get (name_tokens text tokens) at ≡ Some token
  pub starts : start ≡ token.start
  pub ends : end ≡ token.end

-- A name in a head that may not stand there begins and ends at these offsets, the first in the text: a defined name that an earlier
-- definition defines, or a parameter that is a defined name or another parameter of its definition.
pub record HasHeadFault (text : List ℕ) (start end : ℕ) : Type 0 where
  pub tokens : List Token
  pub own : List Terminal
  pub declarations : List Declaration
  pub derives : Derives text tokens own declarations
  pub named : IsFirstName (λ o. is_redefined o.role) text tokens declarations start end

-- No name in a head is wrong, and some definition reaches itself through uses. The name of the first such definition in the text
-- begins and ends at these offsets where it is defined.
pub record HasCycleFault (text : List ℕ) (start end : ℕ) : Type 0 where
  pub tokens : List Token
  pub own : List Terminal
  pub declarations : List Declaration
  pub derives : Derives text tokens own declarations
  pub once : position (λ o. is_redefined o.role) (names_in declarations) ≡ None
  pub number : ℕ
  pub cycle : IsFirstOnCycle (definitions_in declarations) number
  pub named : IsFirstName (is_head_of cycle.definition.name) text tokens declarations start end

-- Besides no definition reaches itself. A name of a wrong kind begins and ends at these offsets, the first in the text: a defined
-- name that is neither where it is defined nor a use, a parameter that is no signal, or a name that is neither and of another kind
-- than where it stands first.
pub record HasKindFault (text : List ℕ) (start end : ℕ) : Type 0 where
  pub tokens : List Token
  pub own : List Terminal
  pub declarations : List Declaration
  pub derives : Derives text tokens own declarations
  pub once : position (λ o. is_redefined o.role) (names_in declarations) ≡ None
  pub acyclic : NoneOnCycle (definitions_in declarations)
  pub named : IsFirstName (has_kind_fault (names_in declarations)) text tokens declarations start end

-- Besides no name is of a wrong kind. A name with a wrong number begins and ends at these offsets, the first in the text: a use with
-- another number of names than its definition has parameters, or a function or predicate with another number of arguments than
-- where it stands first.
pub record HasArityFault (text : List ℕ) (start end : ℕ) : Type 0 where
  pub tokens : List Token
  pub own : List Terminal
  pub declarations : List Declaration
  pub derives : Derives text tokens own declarations
  pub once : position (λ o. is_redefined o.role) (names_in declarations) ≡ None
  pub acyclic : NoneOnCycle (definitions_in declarations)
  pub kinds : position (has_kind_fault (names_in declarations)) (names_in declarations) ≡ None
  pub named : IsFirstName (has_arity_fault (heads_of declarations) (names_in declarations)) text tokens declarations start end

-- No name of the text is wrong where it stands. The first use in a section such that what stands in its place passes level 200
-- begins and ends at these offsets with its name.
pub record HasDeepUse (text : List ℕ) (start end : ℕ) : Type 0 where
  pub tokens : List Token
  pub own : List Terminal
  pub declarations : List Declaration
  pub derives : Derives text tokens own declarations
  pub named_well : AreNamedWell declarations
  pub named : IsFirstName (is_use_too_deep (definitions_in declarations)) text tokens declarations start end

-- the text would spell a specification whose formula has more than 10,000 nodes
pub record HasTooManyNodes (text : List ℕ) : Type 0 where
  pub spec : SpecTree
  pub derived : IsDerived text spec
  pub many_nodes : most_formula_nodes < nodes (whole_formula spec)

-- what each refusal says of the text
abbrev pub HasCause : List ℕ → SpecError → Type 0
HasCause text (Byte at) = HasBadByte text at
HasCause text (OpenComment at) = HasOpenComment text at
HasCause text (Form at) = HasFormFault text at
HasCause text (Deep at) = HasDeepFault text at
HasCause text (Defined start end) = HasHeadFault text start end
HasCause text (Cycle start end) = HasCycleFault text start end
HasCause text (Kind start end) = HasKindFault text start end
HasCause text (Arity start end) = HasArityFault text start end
HasCause text (DeepUse start end) = HasDeepUse text start end
HasCause text Nodes = HasTooManyNodes text
HasCause text NoMemory = Unit {0}

-- the refusal says something of the text: it is not that memory ran out
abbrev pub IsOfText : SpecError → Type 0
IsOfText NoMemory = ⊥
IsOfText _ = Unit {0}

-- where the refusal is no want of memory, the text spells no specification
abbrev pub SpellsNoSpec : List ℕ → SpecError → Type 0
SpellsNoSpec text NoMemory = Unit {0}
SpellsNoSpec text _ = (spec : SpecTree) → Spells text spec → ⊥
