-- Named formulas, and formulas in which each use of one is replaced.
use Rattle.std.specs.Prelude.{ℕ, zero, suc, List, [], ◌∷◌, map, Option, Some, None, option_map, if◌then◌else◌}
use Rattle.std.specs.Str.{bytes_eq}
use Rattle.spec_syntax.specs.Syntax.{TermSyntax, alone, applied, grouped_term, TermsSyntax, no_terms, more_terms}
use Rattle.spec_syntax.specs.Syntax.{FormulaSyntax, truth, falsehood, bare, tested, updated, grouped, under, between}
use Rattle.spec_syntax.specs.Syntax.{joined, FormulasSyntax, no_formulas, more_formulas, Definition}

-- what a name in a body stands for: a parameter for the name that the use passes, every other name for itself
abbrev pub passed : List (List ℕ) → List (List ℕ) → List ℕ → List ℕ
passed [] ys x = x
passed (p ∷ ps) [] x = x
passed (p ∷ ps) (y ∷ ys) x = if bytes_eq p x then y else passed ps ys x

-- the names, where the terms are bare names
abbrev pub bare_names : TermsSyntax → Option (List (List ℕ))
bare_names no_terms = Some []
bare_names (more_terms (alone x) ts) = option_map (λ xs. x ∷ xs) (bare_names ts)
bare_names (more_terms t ts) = None

-- the names that a use with these arguments passes; `()` is none
abbrev pub passed_names : TermsSyntax → Option (List (List ℕ))
passed_names no_terms = None
passed_names (more_terms t ts) = bare_names (more_terms t ts)

-- what stands in the place of a use of this name with these names, where it is a defined name
abbrev pub Replacing : Type 0
Replacing = List ℕ → List (List ℕ) → Option FormulaSyntax

abbrev pub put_for : Option FormulaSyntax → FormulaSyntax → FormulaSyntax
put_for None a = a
put_for (Some f) a = f

module _ (stands_for : List ℕ → List ℕ) where
  abbrev mutual
    pub renamed_term : TermSyntax → TermSyntax
    renamed_term (alone x) = alone (stands_for x)
    renamed_term (applied f ts) = applied (stands_for f) (renamed_terms ts)
    renamed_term (grouped_term t) = grouped_term (renamed_term t)

    pub renamed_terms : TermsSyntax → TermsSyntax
    renamed_terms no_terms = no_terms
    renamed_terms (more_terms t ts) = more_terms (renamed_term t) (renamed_terms ts)

module _ (replacing : Replacing) (stands_for : List ℕ → List ℕ) where
  abbrev pub replacing_test : List ℕ → Option (List (List ℕ)) → Option FormulaSyntax
  replacing_test p None = None
  replacing_test p (Some ys) = replacing p (map stands_for ys)

  abbrev mutual
    pub expanded : FormulaSyntax → FormulaSyntax
    expanded truth = truth
    expanded falsehood = falsehood
    expanded (bare x) = put_for (replacing x []) (bare (stands_for x))
    expanded (tested p ts) = put_for (replacing_test p (passed_names ts)) (tested (stands_for p) (renamed_terms stands_for ts))
    expanded (updated x t) = updated (stands_for x) (renamed_term stands_for t)
    expanded (grouped a) = grouped (expanded a)
    expanded (under op a) = under op (expanded a)
    expanded (between op a b) = between op (expanded a) (expanded b)
    expanded (joined op fs) = joined op (expanded_members fs)

    pub expanded_members : FormulasSyntax → FormulasSyntax
    expanded_members no_formulas = no_formulas
    expanded_members (more_formulas f fs) = more_formulas (expanded f) (expanded_members fs)

-- What stands in the place of a use, through so many definitions one within another: the body between brackets, with each
-- parameter replaced and with no use left. The names that a use passes are replaced first, so that a parameter of one
-- definition is never taken for a name of another.
abbrev pub expansion_within : (List ℕ → Option Definition) → ℕ → Replacing
expansion_within named zero x ys = None
expansion_within named (suc n) x ys =
    option_map (λ d. grouped (expanded (expansion_within named n) (passed d.parameters ys) d.body)) (named x)

-- The tree without its brackets, of which numbered formulas have none.

abbrev mutual
  pub ungrouped_term : TermSyntax → TermSyntax
  ungrouped_term (alone x) = alone x
  ungrouped_term (applied f ts) = applied f (ungrouped_terms ts)
  ungrouped_term (grouped_term t) = ungrouped_term t

  pub ungrouped_terms : TermsSyntax → TermsSyntax
  ungrouped_terms no_terms = no_terms
  ungrouped_terms (more_terms t ts) = more_terms (ungrouped_term t) (ungrouped_terms ts)

abbrev mutual
  pub ungrouped : FormulaSyntax → FormulaSyntax
  ungrouped truth = truth
  ungrouped falsehood = falsehood
  ungrouped (bare x) = bare x
  ungrouped (tested p ts) = tested p (ungrouped_terms ts)
  ungrouped (updated x t) = updated x (ungrouped_term t)
  ungrouped (grouped a) = ungrouped a
  ungrouped (under op a) = under op (ungrouped a)
  ungrouped (between op a b) = between op (ungrouped a) (ungrouped b)
  ungrouped (joined op fs) = joined op (ungrouped_members fs)

  pub ungrouped_members : FormulasSyntax → FormulasSyntax
  ungrouped_members no_formulas = no_formulas
  ungrouped_members (more_formulas f fs) = more_formulas (ungrouped f) (ungrouped_members fs)
