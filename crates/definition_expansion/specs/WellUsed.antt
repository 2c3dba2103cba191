-- Definitions of which each uses only those of a lower rank, and formulas in which each defined name stands in uses alone,
-- each with as many names as it has parameters.
use Rattle.std.specs.Prelude.{◌≡◌, ℕ, ◌<◌, List, [], ◌∷◌, length, Option, Some, None, option_map}
use Rattle.spec_syntax.specs.Syntax.{TermSyntax, alone, applied, grouped_term, TermsSyntax, no_terms, more_terms}
use Rattle.spec_syntax.specs.Syntax.{FormulaSyntax, truth, falsehood, bare, tested, updated, grouped, under, between}
use Rattle.spec_syntax.specs.Syntax.{joined, FormulasSyntax, no_formulas, more_formulas}
use Rattle.spec_syntax.specs.Written.{written}
use Rattle.spec_syntax.specs.Syntax.{Definition}
use Rattle.definition_expansion.specs.Expansion.{passed_names}
use Rattle.definition_expansion.specs.TextExpansion.{DefinitionText}

-- a definition as it stands in the text
abbrev pub text_of : Definition → DefinitionText
text_of d = record { parameters = d.parameters; body = written d.body }

-- the definitions as they stand in the text
abbrev pub as_written : (List ℕ → Option Definition) → List ℕ → Option DefinitionText
as_written named x = option_map text_of (named x)

module _ (named : List ℕ → Option Definition) (rank : List ℕ → ℕ) where
  abbrev pub IsFree : List ℕ → Type 0
  IsFree x = named x ≡ None

  abbrev pub AreFree : List (List ℕ) → Type 0
  AreFree [] = Unit {0}
  AreFree (x ∷ xs) = IsFree x × AreFree xs

  abbrev mutual
    pub IsFreeTerm : TermSyntax → Type 0
    IsFreeTerm (alone x) = IsFree x
    IsFreeTerm (applied f ts) = IsFree f × AreFreeTerms ts
    IsFreeTerm (grouped_term t) = IsFreeTerm t

    pub AreFreeTerms : TermsSyntax → Type 0
    AreFreeTerms no_terms = Unit {0}
    AreFreeTerms (more_terms t ts) = IsFreeTerm t × AreFreeTerms ts

  -- the name is one of these definitions, and passes as many names as that one has parameters, none of them a defined name
  pub record IsUse (below : ℕ) (x : List ℕ) (ys : List (List ℕ)) : Type 0 where
    pub definition : Definition
    pub defined : named x ≡ Some definition
    pub is_lower : rank x < below
    pub as_many : length ys ≡ length definition.parameters
    pub free_names : AreFree ys

  pub data IsTest (below : ℕ) (p : List ℕ) (ts : TermsSyntax) : Type 0 where
    no_use : IsFree p → AreFreeTerms ts → IsTest below p ts
    use_of : (ys : List (List ℕ)) → passed_names ts ≡ Some ys → IsUse below p ys → IsTest below p ts

  pub data IsBare (below : ℕ) (x : List ℕ) : Type 0 where
    no_bare_use : IsFree x → IsBare below x
    bare_use : IsUse below x [] → IsBare below x

  -- each defined name stands in uses alone, of these definitions
  abbrev mutual
    pub UsesWell : ℕ → FormulaSyntax → Type 0
    UsesWell below truth = Unit {0}
    UsesWell below falsehood = Unit {0}
    UsesWell below (bare x) = IsBare below x
    UsesWell below (tested p ts) = IsTest below p ts
    UsesWell below (updated x t) = IsFree x × IsFreeTerm t
    UsesWell below (grouped a) = UsesWell below a
    UsesWell below (under op a) = UsesWell below a
    UsesWell below (between op a b) = UsesWell below a × UsesWell below b
    UsesWell below (joined op fs) = MembersUseWell below fs

    pub MembersUseWell : ℕ → FormulasSyntax → Type 0
    MembersUseWell below no_formulas = Unit {0}
    MembersUseWell below (more_formulas f fs) = UsesWell below f × MembersUseWell below fs

  -- each definition uses only those of a lower rank, and its parameters are no defined names
  pub record AreRanked : Type 0 where
    pub bodies : (x : List ℕ) (d : Definition) → named x ≡ Some d → UsesWell (rank x) d.body
    pub parameters : (x : List ℕ) (d : Definition) → named x ≡ Some d → AreFree d.parameters
