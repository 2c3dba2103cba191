-- The number of an expansion is computed from the numbers of the definitions, without making it.
use Rattle.std.proofs.Common.{◌≡◌, ℕ, zero, suc, List, [], map, Option, Some, None, refl, ap}
use Rattle.std.specs.Prelude.{option_map}
use Rattle.spec_syntax.specs.Syntax.{TermSyntax, alone, applied, grouped_term, TermsSyntax, no_terms, more_terms}
use Rattle.spec_syntax.specs.Syntax.{FormulaSyntax, truth, falsehood, bare, tested, updated, grouped, under, between}
use Rattle.spec_syntax.specs.Syntax.{joined, FormulasSyntax, no_formulas, more_formulas}
use Rattle.spec_syntax.specs.Syntax.{Definition}
use Rattle.definition_expansion.specs.Expansion.{Replacing, put_for, passed, passed_names, renamed_term, renamed_terms, replacing_test, expanded, expanded_members, expansion_within}
use Rattle.definition_expansion.specs.Folds.{Fold, number_or, fold_term, fold_terms, fold, fold_members, number_of_test, fold_by, fold_members_by, number_within, depths}
use Rattle.spec_syntax.specs.Levels.{term_depth, terms_depth, depth, members_depth}

module _ (F : Fold) where
  module _ (stands_for : List ℕ → List ℕ) where
    mutual
      term_number : (t : TermSyntax) → fold_term F (renamed_term stands_for t) ≡ fold_term F t
      term_number (alone x) = refl
      term_number (applied f ts) = ap F.of_applied (terms_number ts)
      term_number (grouped_term t) = ap F.of_group (term_number t)

      terms_number : (ts : TermsSyntax) → fold_terms F (renamed_terms stands_for ts) ≡ fold_terms F ts
      terms_number no_terms = refl
      terms_number (more_terms t ts) = λ i. F.of_more_terms (term_number t i) (terms_number ts i)

  put_number : (o : Option FormulaSyntax) (number : Option ℕ) (a : FormulaSyntax) (n : ℕ) → option_map (fold F) o ≡ number → fold F a ≡ n →
      fold F (put_for o a) ≡ number_or number n
  put_number None None a n h k = k
  put_number (Some f) (Some m) a n h k = cc
  put_number None (Some m) a n h k = cc
  put_number (Some f) None a n h k = cc

  module _ (replacing : Replacing) (number_for : List ℕ → Option ℕ)
      (agree : (x : List ℕ) (ys : List (List ℕ)) → option_map (fold F) (replacing x ys) ≡ number_for x) (stands_for : List ℕ → List ℕ) where
    test_number : (p : List ℕ) (names : Option (List (List ℕ))) →
        option_map (fold F) (replacing_test replacing stands_for p names) ≡ number_of_test F number_for p names
    test_number p None = refl
    test_number p (Some ys) = agree p (map stands_for ys)

    mutual
      pub expanded_number : (a : FormulaSyntax) → fold F (expanded replacing stands_for a) ≡ fold_by F number_for a
      expanded_number truth = refl
      expanded_number falsehood = refl
      expanded_number (bare x) = put_number (replacing x []) (number_for x) (bare (stands_for x)) F.of_bare (agree x []) refl
      expanded_number (tested p ts) =
          put_number (replacing_test replacing stands_for p (passed_names ts)) (number_of_test F number_for p (passed_names ts))
          (tested (stands_for p) (renamed_terms stands_for ts)) (F.of_tested (fold_terms F ts)) (test_number p (passed_names ts))
          (ap F.of_tested (terms_number stands_for ts))
      expanded_number (updated x t) = ap F.of_updated (term_number stands_for t)
      expanded_number (grouped a) = ap F.of_group (expanded_number a)
      expanded_number (under op a) = ap F.of_under (expanded_number a)
      expanded_number (between op a b) = λ i. F.of_between op (expanded_number a i) (expanded_number b i)
      expanded_number (joined op fs) = ap F.of_joined (members_number fs)

      members_number : (fs : FormulasSyntax) → fold_members F (expanded_members replacing stands_for fs) ≡ fold_members_by F number_for fs
      members_number no_formulas = refl
      members_number (more_formulas f fs) = λ i. F.of_more_members (expanded_number f i) (members_number fs i)

  module _ (named : List ℕ → Option Definition) where
    pub expansion_number : (n : ℕ) (x : List ℕ) (ys : List (List ℕ)) →
        option_map (fold F) (expansion_within named n x ys) ≡ number_within F named n x
    expansion_number zero x ys = refl
    expansion_number (suc n) x ys = of_body (named x) (λ d. expanded_number (expansion_within named n) (number_within F named n)
        (expansion_number n) (passed d.parameters ys) d.body)
      where
        of_body : (o : Option Definition) → ((d : Definition) → fold F (expanded (expansion_within named n) (passed d.parameters ys) d.body)
            ≡ fold_by F (number_within F named n) d.body) →
            option_map (fold F) (option_map (λ d. grouped (expanded (expansion_within named n) (passed d.parameters ys) d.body)) o)
            ≡ option_map (λ d. F.of_group (fold_by F (number_within F named n) d.body)) o
        of_body None same = refl
        of_body (Some d) same = ap (λ m. Some (F.of_group m)) (same d)

    -- the number of a formula's expansion
    pub number_of_expansion : (n : ℕ) (stands_for : List ℕ → List ℕ) (a : FormulaSyntax) →
        fold F (expanded (expansion_within named n) stands_for a) ≡ fold_by F (number_within F named n) a
    number_of_expansion n stands_for a =
        expanded_number (expansion_within named n) (number_within F named n) (expansion_number n) stands_for a

-- ---- depths

mutual
  pub term_depth_is : (t : TermSyntax) → fold_term depths t ≡ term_depth t
  term_depth_is (alone x) = refl
  term_depth_is (applied f ts) = terms_depth_is ts
  term_depth_is (grouped_term t) = ap suc (term_depth_is t)

  pub terms_depth_is : (ts : TermsSyntax) → fold_terms depths ts ≡ terms_depth ts
  terms_depth_is no_terms = refl
  terms_depth_is (more_terms t ts) = λ i. depths.of_more_terms (term_depth_is t i) (terms_depth_is ts i)

mutual
  pub depth_is : (a : FormulaSyntax) → fold depths a ≡ depth a
  depth_is truth = refl
  depth_is falsehood = refl
  depth_is (bare x) = refl
  depth_is (tested p ts) = terms_depth_is ts
  depth_is (updated x t) = term_depth_is t
  depth_is (grouped a) = ap suc (depth_is a)
  depth_is (under op a) = ap suc (depth_is a)
  depth_is (between op a b) = λ i. depths.of_between op (depth_is a i) (depth_is b i)
  depth_is (joined op fs) = members_depth_is fs

  members_depth_is : (fs : FormulasSyntax) → fold_members depths fs ≡ members_depth fs
  members_depth_is no_formulas = refl
  members_depth_is (more_formulas f fs) = λ i. depths.of_more_members (depth_is f i) (members_depth_is fs i)
