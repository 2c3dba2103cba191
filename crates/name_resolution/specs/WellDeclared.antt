-- What is known of declarations of which no name is wrong where it stands.
use Rattle.std.specs.Prelude.{◌≡◌, ℕ, ◌<◌, ◌==◌, ◌&&◌, Bool, true, false, not, List, Option, Some, None, min, option_map, position, slice_get}
use Rattle.std.specs.List.{list_any, AllByRecursion}
use Rattle.std.specs.Option.{is_some}
use Rattle.std.specs.Str.{bytes_eq}
use Rattle.tsl_terms.specs.declared.names.NameKind.{NameKind}
use Rattle.tsl_terms.specs.Name.{Name, same_kind}
use Rattle.tsl_terms.specs.Clashes.{same_arity, first_uses}
use Rattle.spec_syntax.specs.Syntax.{FormulaSyntax, Definition, Declaration, the_section, the_definition}
use Rattle.definition_expansion.specs.Occurrences.{Passing, Plain, InBody}
use Rattle.definition_expansion.specs.Folds.{depths}
use Rattle.definition_expansion.specs.ExpansionSizes.{number_in}
use Rattle.definition_expansion.specs.declared.sizing.TheConstants.{LEVELS_STOP}
use Rattle.definition_expansion.specs.UseLevels.{uses_at, AreWithin}
use Rattle.definition_expansion.specs.Uses.{IsOnCycle}
use Rattle.definition_expansion.specs.WellUsed.{UsesWell, AreFree}
use Rattle.name_resolution.specs.declared.occurrence.Role.{Role}
use Rattle.name_resolution.specs.declared.occurrence.Role.TheVariants.{Used, Misused}
use Rattle.name_resolution.specs.Heads.{definitions_in, heads_in}
use Rattle.name_resolution.specs.Occurrences.{Occurrence, occurrences}
use Rattle.name_resolution.specs.Faults.{is_plain, is_used, is_redefined, has_kind_fault, has_arity_fault, is_unlike_name, deepest_level}
use Rattle.name_resolution.specs.Faults.{levels_for, passes_deepest}

-- each atom that may be a use of a defined name is one of a lower rank
abbrev pub UsesAreBelow : (List ℕ → Option Definition) → (List ℕ → ℕ) → ℕ → FormulaSyntax → Type 0
UsesAreBelow named rank below a = AllByRecursion (λ u. is_some (named u.name) ≡ true → rank u.name < below) (uses_at 0 a)

-- uses in definitions are of those of a lower rank, and uses in sections of those below a rank
abbrev pub RanksFall : (List ℕ → Option Definition) → (List ℕ → ℕ) → ℕ → Declaration → Type 0
RanksFall named rank below (the_section s) = AllByRecursion (UsesAreBelow named rank below) s.formulas
RanksFall named rank below (the_definition d) = UsesAreBelow named rank (rank d.name) d.body

-- each defined name stands in uses alone, each with as many names as it has parameters, and no parameter is a defined name
abbrev pub IsWellDeclared : (List ℕ → Option Definition) → (List ℕ → ℕ) → ℕ → Declaration → Type 0
IsWellDeclared named rank below (the_section s) = AllByRecursion (UsesWell named rank below) s.formulas
IsWellDeclared named rank below (the_definition d) = UsesWell named rank (rank d.name) d.body × AreFree named rank d.parameters

abbrev pub used_well_as : Role → Bool → Bool
used_well_as Misused passes_others = false
used_well_as Used passes_others = not passes_others
used_well_as _ passes_others = true

-- a defined name is used, with as many names as its definition has parameters
abbrev pub is_used_well : List Name → Occurrence → Bool
is_used_well heads o = used_well_as o.role (is_unlike_name same_arity heads o)

-- what stands in the place of each use in a section needs no level above the deepest one
abbrev pub UsesFit : List Name → List ℕ → Declaration → Type 0
UsesFit heads levels (the_section s) = AllByRecursion (λ f. AreWithin deepest_level (levels_for heads levels) (uses_at 0 f)) s.formulas
UsesFit heads levels (the_definition d) = Unit {0}

-- whether a name occurs so in a text as a plain name
abbrev pub occurs_plain : List Occurrence → List ℕ → NameKind → ℕ → Bool
occurs_plain all x kind arity = list_any (λ o. is_plain o.role && (bytes_eq x o.text && (same_kind kind o.kind && (arity == o.arity)))) all

-- each plain name of a declaration is used as it occurs in the text, and each parameter as a signal
abbrev pub IsPlainlyUsed : List Occurrence → (List ℕ → Option Definition) → (List ℕ → ℕ) → Declaration → Type 0
IsPlainlyUsed all named rank (the_section s) = AllByRecursion (Plain (Passing (occurs_plain all)) named rank) s.formulas
IsPlainlyUsed all named rank (the_definition d) = Plain (InBody (Passing (occurs_plain all)) d.parameters) named rank d.body

-- the defined names of a text, each with the number of parameters of its first definition
abbrev pub heads_of : List Declaration → List Name
heads_of ds = first_uses (heads_in ds)

-- each name of a text, in order, as what it occurs
abbrev pub names_in : List Declaration → List Occurrence
names_in ds = occurrences (heads_of ds) ds

-- no definition reaches itself through uses
abbrev pub NoneOnCycle : List Definition → Type 0
NoneOnCycle ds = (i : ℕ) (d : Definition) → slice_get ds i ≡ Some d → IsOnCycle ds d → ⊥

-- No name is defined twice, no parameter is a defined name or another parameter of its definition, no definition reaches
-- itself, and no name has a fault of its kind or of its number of arguments.
pub record AreNamedWell (ds : List Declaration) : Type 0 where
  pub once : position (λ o. is_redefined o.role) (names_in ds) ≡ None
  pub acyclic : NoneOnCycle (definitions_in ds)
  pub kinds : position (has_kind_fault (names_in ds)) (names_in ds) ≡ None
  pub arities : position (has_arity_fault (heads_of ds) (names_in ds)) (names_in ds) ≡ None

-- a use in a section such that what stands in its place, with its brackets and with no use left, passes the deepest level
abbrev pub is_use_too_deep : List Definition → Occurrence → Bool
is_use_too_deep ds o = is_used o.role && (o.in_section && passes_deepest o.level (number_in depths ds o.text))

-- the table says for each defined name how many levels what stands in its place needs, up to `LEVELS_STOP`
abbrev pub AreLevels : List Name → List ℕ → List Definition → Type 0
AreLevels heads levels ds = (x : List ℕ) → levels_for heads levels x ≡ option_map (min LEVELS_STOP) (number_in depths ds x)
