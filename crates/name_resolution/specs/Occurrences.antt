-- Each name that stands in a text and is no reserved word, in the order of the text, as what it occurs.
use Rattle.std.specs.Prelude.{ℕ, suc, Bool, true, false, not, ◌&&◌, ◌||◌, List, [], ◌∷◌, ◌++◌, length, map, flat_map, Option, Some, None}
use Rattle.std.specs.Prelude.{if◌then◌else◌}
use Rattle.std.specs.List.{list_all}
use Rattle.std.specs.Str.{bytes_eq}
use Rattle.tsl_terms.specs.declared.names.NameKind.{NameKind}
use Rattle.tsl_terms.specs.declared.names.NameKind.TheVariants.{Signal, Function, Predicate}
use Rattle.tsl_terms.specs.Name.{Name}
use Rattle.tsl_terms.specs.Clashes.{with_uses}
use Rattle.spec_syntax.specs.Syntax.{TermSyntax, alone, applied, grouped_term, TermsSyntax, no_terms, more_terms}
use Rattle.spec_syntax.specs.Syntax.{FormulaSyntax, truth, falsehood, bare, tested, updated, grouped, under, between}
use Rattle.spec_syntax.specs.Syntax.{joined, FormulasSyntax, no_formulas, more_formulas, SectionSyntax}
use Rattle.spec_syntax.specs.Syntax.{Definition, Declaration, the_section, the_definition}
use Rattle.definition_expansion.specs.Expansion.{passed_names}
use Rattle.definition_expansion.specs.Occurrences.{count_of}
use Rattle.definition_expansion.specs.UseLevels.{level_of_right}
use Rattle.name_resolution.specs.declared.occurrence.Role.{Role}
use Rattle.name_resolution.specs.declared.occurrence.Role.TheVariants.{Plain, Parameter, Head, Redefined, Used, Misused}
use Rattle.name_resolution.specs.Heads.{head_names, is_name, is_among}

-- A name where it stands: its text, what it is used as there and with how many arguments, its role, the level of the atom
-- that it stands in, whether that is in a section, and whether it stands alone as an atom.
pub record Occurrence : Type 0 where
  pub text : List ℕ
  pub kind : NameKind
  pub arity : ℕ
  pub role : Role
  pub level : ℕ
  pub in_section : Bool
  pub is_alone : Bool

-- what is known of names where a formula stands: which are defined, and which are parameters of its definition
pub record Scope : Type 0 where
  pub is_defined : List ℕ → Bool
  pub is_parameter : List ℕ → Bool
  pub in_section : Bool

abbrev pub of_section : List Name → Scope
of_section heads = record { is_defined = is_name heads; is_parameter = λ _. false; in_section = true }

abbrev pub of_body : List Name → List (List ℕ) → Scope
of_body heads parameters = record { is_defined = is_name heads; is_parameter = is_among parameters; in_section = false }

-- the role of a name that is no use
abbrev pub role_in : Scope → List ℕ → Role
role_in s x = if s.is_defined x then Misused else (if s.is_parameter x then Parameter else Plain)

-- whether an atom is a use: its name is defined, and what it passes are bare names, none of them defined
abbrev pub is_use : Scope → List ℕ → Option (List (List ℕ)) → Bool
is_use s x None = false
is_use s x (Some names) = s.is_defined x && list_all (λ y. not (s.is_defined y)) names

-- the role of the name of an atom
abbrev pub atom_role : Scope → List ℕ → Option (List (List ℕ)) → Role
atom_role s x names = if is_use s x names then Used else role_in s x

abbrev pub occurrence : Scope → ℕ → Role → NameKind → ℕ → List ℕ → Occurrence
occurrence s level role kind arity x = record {
  text = x;
  kind = kind;
  arity = arity;
  role = role;
  level = level;
  in_section = s.in_section;
  is_alone = false;
}

abbrev pub occurrence_alone : Scope → ℕ → List ℕ → Occurrence
occurrence_alone s level x = record {
  text = x;
  kind = Signal;
  arity = 0;
  role = atom_role s x (Some []);
  level = level;
  in_section = s.in_section;
  is_alone = true;
}

-- the names of a term or a formula at a level, in order

abbrev mutual
  pub term_occurrences : Scope → ℕ → TermSyntax → List Occurrence
  term_occurrences s level (alone x) = occurrence s level (role_in s x) Signal 0 x ∷ []
  term_occurrences s level (applied f ts) = occurrence s level (role_in s f) Function (count_of ts) f ∷ terms_occurrences s level ts
  term_occurrences s level (grouped_term t) = term_occurrences s level t

  pub terms_occurrences : Scope → ℕ → TermsSyntax → List Occurrence
  terms_occurrences s level no_terms = []
  terms_occurrences s level (more_terms t ts) = term_occurrences s level t ++ terms_occurrences s level ts

abbrev mutual
  pub formula_occurrences : Scope → ℕ → FormulaSyntax → List Occurrence
  formula_occurrences s level truth = []
  formula_occurrences s level falsehood = []
  formula_occurrences s level (bare x) = occurrence_alone s level x ∷ []
  formula_occurrences s level (tested p ts) =
      occurrence s level (atom_role s p (passed_names ts)) Predicate (count_of ts) p ∷ terms_occurrences s level ts
  formula_occurrences s level (updated x t) = occurrence s level (role_in s x) Signal 0 x ∷ term_occurrences s level t
  formula_occurrences s level (grouped a) = formula_occurrences s (suc level) a
  formula_occurrences s level (under op a) = formula_occurrences s (suc level) a
  formula_occurrences s level (between op a b) = formula_occurrences s level a ++ formula_occurrences s (level_of_right op level) b
  formula_occurrences s level (joined op fs) = members_occurrences s level fs

  pub members_occurrences : Scope → ℕ → FormulasSyntax → List Occurrence
  members_occurrences s level no_formulas = []
  members_occurrences s level (more_formulas f fs) = formula_occurrences s level f ++ members_occurrences s level fs

abbrev pub section_occurrences : List Name → SectionSyntax → List Occurrence
section_occurrences heads s = flat_map (formula_occurrences (of_section heads) 0) s.formulas

-- whether a parameter stands among the parameters more than once
abbrev pub is_repeated : List (List ℕ) → List ℕ → Bool
is_repeated [] x = false
is_repeated (p ∷ ps) x = (bytes_eq x p && is_among ps x) || is_repeated ps x

abbrev pub in_head : NameKind → ℕ → Role → List ℕ → Occurrence
in_head kind arity role x = record {
  text = x;
  kind = kind;
  arity = arity;
  role = role;
  level = 0;
  in_section = false;
  is_alone = false;
}

-- a defined name where it is defined, behind definitions of others: no earlier definition may have it
abbrev pub head_name : List Name → Definition → Occurrence
head_name before d = in_head Predicate (length d.parameters) (if is_name before d.name then Redefined else Head) d.name

-- a parameter in its head: it may be no defined name, and no other parameter of its definition
abbrev pub parameter_name : (List ℕ → Bool) → (List ℕ → Bool) → List ℕ → Occurrence
parameter_name is_defined is_twice x = in_head Signal 0 (if is_defined x || is_twice x then Redefined else Parameter) x

abbrev pub definition_occurrences : List Name → List Name → Definition → List Occurrence
definition_occurrences heads before d =
    head_name before d
    ∷ (map (parameter_name (is_name heads) (is_repeated d.parameters)) d.parameters ++ formula_occurrences (of_body heads d.parameters) 0 d.body)

abbrev pub declaration_occurrences : List Name → List Name → Declaration → List Occurrence
declaration_occurrences heads before (the_section s) = section_occurrences heads s
declaration_occurrences heads before (the_definition d) = definition_occurrences heads before d

-- the names of declarations that stand behind definitions of these names
abbrev pub occurrences_behind : List Name → List Name → List Declaration → List Occurrence
occurrences_behind heads before [] = []
occurrences_behind heads before (d ∷ ds) =
    declaration_occurrences heads before d ++ occurrences_behind heads (with_uses before (head_names d)) ds

-- the names of a text in which these names are defined
abbrev pub occurrences : List Name → List Declaration → List Occurrence
occurrences heads ds = occurrences_behind heads [] ds
