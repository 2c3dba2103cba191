-- Definitions, without where they lie in memory.
use Rattle.std.specs.Prelude.{◌≡◌, ℕ, List, [], ◌∷◌, ◌++◌, map, Option, Some, None, IsTrue, if◌then◌else◌}
use Rattle.std.specs.Option.{is_some}
use Rattle.std.specs.Str.{bytes_eq}
use Rattle.tsl_terms.specs.Name.{Name, texts}
use Rattle.spec_syntax.specs.SyntaxView.{formula_syntax}
use Rattle.definition_expansion.specs.declared.definitions.ReadDefinition.{ReadDefinition}
use Rattle.spec_syntax.specs.Syntax.{Definition}

abbrev pub definition_of : ReadDefinition → Definition
definition_of d = record { name = d.name.now; parameters = texts d.parameters; body = formula_syntax d.body }

-- the first definition of a name
abbrev pub named_in : List Definition → List ℕ → Option Definition
named_in [] x = None
named_in (d ∷ ds) x = if bytes_eq x d.name then Some d else named_in ds x

abbrev pub definitions_of : List ReadDefinition → List ℕ → Option Definition
definitions_of ds = named_in (map definition_of ds)

-- these are the names of the definitions, in order
abbrev pub AreHeads : List Name → List ReadDefinition → Type 0
AreHeads names ds = texts names ≡ map (λ d. d.name) (map definition_of ds)

-- a definition has the name of an earlier one
pub record IsDefinedTwice (ds : List Definition) : Type 0 where
  pub front : List Definition
  pub again : Definition
  pub rest : List Definition
  pub split : ds ≡ front ++ again ∷ rest
  pub earlier : IsTrue (is_some (named_in front again.name))
