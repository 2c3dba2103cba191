-- Internal: only private functions of this crate use these words.
-- What is known of a text while it is read.
use Rattle.std.specs.Prelude.{◌≡◌, ℕ, ◌<◌, ◌^◌, suc, List, length, map, None, position}
use Rattle.tsl_text.specs.declared.Token.{Token}
use Rattle.tsl_terms.specs.declared.names.NameKind.TheVariants.{Signal}
use Rattle.tsl_terms.specs.Name.{Name, texts}
use Rattle.tsl_terms.specs.Clashes.{first_uses}
use Rattle.spec_syntax.specs.declared.syntax.Part.{Part}
use Rattle.spec_syntax.specs.Syntax.{Terminal, SectionSyntax, Definition, Declaration, sections_among}
use Rattle.spec_syntax.specs.Grammar.{AreSections}
use Rattle.definition_expansion.specs.DefinitionView.{named_in}
use Rattle.definition_expansion.specs.TextExpansion.{Expands}
use Rattle.definition_expansion.specs.WellUsed.{as_written}
use Rattle.name_resolution.specs.Heads.{definitions_in}
use Rattle.name_resolution.specs.Occurrences.{Occurrence}
use Rattle.name_resolution.specs.Faults.{is_redefined, has_kind_fault, has_arity_fault}
use Rattle.name_resolution.specs.WellDeclared.{heads_of, names_in, NoneOnCycle, AreNamedWell}
use Rattle.tsl_reader.specs.Naming.{all_uses, numbered_list, formulas_of_part}
use Rattle.tsl_reader.specs.Spells.{deepest_level, Derives}

-- the tokens derive from these sections and definitions
abbrev pub AreDeclared : List ℕ → List Token → List Declaration → Type 0
AreDeclared text tokens declarations = (own : List Terminal) × Derives text tokens own declarations

-- the names as a definition keeps them: each once
abbrev pub names_once : List (List ℕ) → List Name
names_once xs = first_uses (map (λ x. record { text = x; kind = Signal; arity = 0 }) xs)

-- a definition, with each parameter once
abbrev pub with_names_once : Definition → Definition
with_names_once d = record { name = d.name; parameters = texts (names_once d.parameters); body = d.body }

-- of what the tokens derive from these are the defined names, and these the names in order
pub record AreTextNames (text : List ℕ) (tokens : List Token) (heads : List Name) (all : List Occurrence) : Type 0 where
  pub own : List Terminal
  pub declarations : List Declaration
  pub derives : Derives text tokens own declarations
  pub heads_are : heads ≡ heads_of declarations
  pub names_are : all ≡ names_in declarations

-- besides no name in a head is wrong, and these are the sections and the definitions
pub record AreTextParts (text : List ℕ) (tokens : List Token) (heads : List Name) (all : List Occurrence)
    (sections : List SectionSyntax) (definitions : List Definition) : Type 0 where
  pub named : AreTextNames text tokens heads all
  pub sections_are : sections ≡ sections_among named.declarations
  pub definitions_are : definitions ≡ definitions_in named.declarations
  pub once : position (λ o. is_redefined o.role) all ≡ None

-- besides no definition reaches itself
pub record AreInOrder (text : List ℕ) (tokens : List Token) (heads : List Name) (all : List Occurrence)
    (sections : List SectionSyntax) (definitions : List Definition) : Type 0 where
  pub parts : AreTextParts text tokens heads all sections definitions
  pub acyclic : NoneOnCycle definitions

-- besides no name is of a wrong kind or has a wrong number
pub record AreWell (text : List ℕ) (tokens : List Token) (heads : List Name) (all : List Occurrence)
    (sections : List SectionSyntax) (definitions : List Definition) : Type 0 where
  pub ordered : AreInOrder text tokens heads all sections definitions
  pub kinds : position (has_kind_fault all) all ≡ None
  pub arities : position (has_arity_fault heads all) all ≡ None

-- sections whose names and numbered formulas are those of others, as where they leave out brackets
pub record StandFor (read sections : List SectionSyntax) : Type 0 where
  pub uses : all_uses read ≡ all_uses sections
  pub numbers : (names : List Name) (part : Part) →
      numbered_list names (formulas_of_part part read) ≡ numbered_list names (formulas_of_part part sections)

-- everything of a text but its specification: what these sections stand for
pub record AreExpanded (text : List ℕ) (read : List SectionSyntax) : Type 0 where
  pub tokens : List Token
  pub own : List Terminal
  pub declarations : List Declaration
  pub derives : Derives text tokens own declarations
  pub named_well : AreNamedWell declarations
  pub expanded : List Terminal
  pub expands : Expands (as_written (named_in (definitions_in declarations))) own expanded
  pub sections : List SectionSyntax
  pub sections_are : AreSections deepest_level expanded sections
  pub stand_for : StandFor read sections
  pub few : suc (length (all_uses read)) < 2 ^ 32
