-- Formulas without their brackets use the same names and have the same numbers.
use Rattle.std.proofs.Common.{◌≡◌, ◌+◌, List, ◌∷◌, ◌++◌, refl, ap}
use Rattle.std.specs.Prelude.{option_map, option_and_then}
use Rattle.tsl_terms.specs.declared.names.NameKind.TheVariants.{Signal, Function, Predicate}
use Rattle.tsl_terms.specs.Name.{Name, number_of}
use Rattle.tsl_terms.specs.TermTree.{apply, more_terms as more_trees}
use Rattle.tsl_terms.specs.FormulaTree.{update, atom, unary, binary, many}
use Rattle.tsl_terms.specs.FormulaTree.{more_formulas as more_members}
use Rattle.spec_syntax.specs.Syntax.{TermSyntax, alone, applied, grouped_term, TermsSyntax, no_terms, more_terms, FormulaSyntax, truth}
use Rattle.spec_syntax.specs.Syntax.{falsehood, bare, tested, updated, grouped, under, between, joined, FormulasSyntax, no_formulas}
use Rattle.spec_syntax.specs.Syntax.{more_formulas}
use Rattle.definition_expansion.specs.Expansion.{ungrouped_term, ungrouped_terms, ungrouped, ungrouped_members}
use Rattle.tsl_reader.specs.Naming.{use_as, count_of_arguments, term_uses, terms_uses, uses, members_uses}
use Rattle.tsl_reader.specs.Naming.{numbered_term, numbered_terms, test_of, numbered_formula, numbered_members}

-- ---- uses

count_told : (ts : TermsSyntax) → count_of_arguments (ungrouped_terms ts) ≡ count_of_arguments ts
count_told no_terms = refl
count_told (more_terms t ts) = ap (λ n. 1 + n) (count_told ts)

mutual
  term_uses_told : (t : TermSyntax) → term_uses (ungrouped_term t) ≡ term_uses t
  term_uses_told (alone x) = refl
  term_uses_told (applied f ts) = λ i. use_as Function f (count_told ts i) ∷ terms_uses_told ts i
  term_uses_told (grouped_term t) = term_uses_told t

  terms_uses_told : (ts : TermsSyntax) → terms_uses (ungrouped_terms ts) ≡ terms_uses ts
  terms_uses_told no_terms = refl
  terms_uses_told (more_terms t ts) = λ i. term_uses_told t i ++ terms_uses_told ts i

mutual
  pub uses_told : (a : FormulaSyntax) → uses (ungrouped a) ≡ uses a
  uses_told truth = refl
  uses_told falsehood = refl
  uses_told (bare x) = refl
  uses_told (tested p ts) = λ i. use_as Predicate p (count_told ts i) ∷ terms_uses_told ts i
  uses_told (updated x t) = ap (λ us. use_as Signal x 0 ∷ us) (term_uses_told t)
  uses_told (grouped a) = uses_told a
  uses_told (under op a) = uses_told a
  uses_told (between op a b) = λ i. uses_told a i ++ uses_told b i
  uses_told (joined op fs) = members_uses_told fs

  members_uses_told : (fs : FormulasSyntax) → members_uses (ungrouped_members fs) ≡ members_uses fs
  members_uses_told no_formulas = refl
  members_uses_told (more_formulas f fs) = λ i. uses_told f i ++ members_uses_told fs i

-- ---- numbers

module _ (names : List Name) where
  mutual
    term_told : (t : TermSyntax) → numbered_term names (ungrouped_term t) ≡ numbered_term names t
    term_told (alone x) = refl
    term_told (applied f ts) =
        ap (λ trees. option_and_then (λ number. option_map (apply number) trees) (number_of names f)) (terms_told ts)
    term_told (grouped_term t) = term_told t

    terms_told : (ts : TermsSyntax) → numbered_terms names (ungrouped_terms ts) ≡ numbered_terms names ts
    terms_told no_terms = refl
    terms_told (more_terms t ts) = λ i. option_and_then (λ tree. option_map (more_trees tree) (terms_told ts i)) (term_told t i)

  mutual
    pub numbers_told : (a : FormulaSyntax) → numbered_formula names (ungrouped a) ≡ numbered_formula names a
    numbers_told truth = refl
    numbers_told falsehood = refl
    numbers_told (bare x) = refl
    numbers_told (tested p ts) =
        ap (λ trees. option_and_then (λ number. option_map (test_of number) trees) (number_of names p)) (terms_told ts)
    numbers_told (updated x t) =
        ap (λ tree. option_and_then (λ s. option_map (λ made. atom (update s made)) tree) (number_of names x)) (term_told t)
    numbers_told (grouped a) = numbers_told a
    numbers_told (under op a) = ap (option_map (unary op)) (numbers_told a)
    numbers_told (between op a b) =
        λ i. option_and_then (λ left. option_map (binary op left) (numbers_told b i)) (numbers_told a i)
    numbers_told (joined op fs) = ap (option_map (many op)) (members_numbers_told fs)

    members_numbers_told : (fs : FormulasSyntax) → numbered_members names (ungrouped_members fs) ≡ numbered_members names fs
    members_numbers_told no_formulas = refl
    members_numbers_told (more_formulas f fs) =
        λ i. option_and_then (λ tree. option_map (more_members tree) (members_numbers_told fs i)) (numbers_told f i)
