-- The defined names of a text. Definitions with parameters are this project's own addition to the specification format.
use Rattle.std.specs.Prelude.{ℕ, ◌+◌, Bool, List, [], ◌∷◌, length, flat_map}
use Rattle.std.specs.List.{list_any}
use Rattle.std.specs.Option.{is_some}
use Rattle.std.specs.Str.{bytes_eq}
use Rattle.tsl_terms.specs.declared.names.NameKind.TheVariants.{Predicate}
use Rattle.tsl_terms.specs.Name.{Name, number_of}
use Rattle.spec_syntax.specs.Syntax.{Definition, Declaration, the_section, the_definition}

-- a defined name: it takes as many names as it has parameters
abbrev pub head_of : Definition → Name
head_of d = record { text = d.name; kind = Predicate; arity = length d.parameters }

-- the definitions of a text, in order
abbrev pub definitions_in : List Declaration → List Definition
definitions_in [] = []
definitions_in (the_section s ∷ ds) = definitions_in ds
definitions_in (the_definition d ∷ ds) = d ∷ definitions_in ds

-- the name that a declaration defines, where it is a definition
abbrev pub head_names : Declaration → List Name
head_names (the_section s) = []
head_names (the_definition d) = head_of d ∷ []

-- the defined names of a text, one for each definition
abbrev pub heads_in : List Declaration → List Name
heads_in ds = flat_map head_names ds

-- how many names stand in the head of a declaration, where it is a definition
abbrev pub head_size : Declaration → ℕ
head_size (the_section s) = 0
head_size (the_definition d) = 1 + length d.parameters

abbrev pub heads_size : List Declaration → ℕ
heads_size [] = 0
heads_size (d ∷ ds) = head_size d + heads_size ds

abbrev pub is_name : List Name → List ℕ → Bool
is_name heads x = is_some (number_of heads x)

abbrev pub is_among : List (List ℕ) → List ℕ → Bool
is_among xs x = list_any (bytes_eq x) xs
