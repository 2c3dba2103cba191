-- Numbers that stop at a bound, and tables of numbers by rising rank.
use Rattle.std.proofs.Common.{◌≡◌, ℕ, zero, suc, ◌+◌, ◌<◌, min, List, Option, Some, None, refl, ap, sym, ◌∙◌, arith}
use Rattle.std.specs.Prelude.{option_map}
use Rattle.tsl_terms.specs.declared.operator.BinaryOperator.{BinaryOperator}
use Rattle.tsl_terms.specs.Nodes.{nodes_of_sides}
use Rattle.spec_syntax.specs.Syntax.{TermSyntax, alone, applied, grouped_term, TermsSyntax, no_terms, more_terms}
use Rattle.spec_syntax.specs.Syntax.{FormulaSyntax, truth, falsehood, bare, tested, updated, grouped, under, between}
use Rattle.spec_syntax.specs.Syntax.{joined, FormulasSyntax, no_formulas, more_formulas}
use Rattle.spec_syntax.specs.Syntax.{Definition}
use Rattle.definition_expansion.specs.Expansion.{passed_names}
use Rattle.definition_expansion.specs.Folds.{Fold, number_or, fold_term, fold_terms, number_of_test, fold_by, fold_members_by, number_within, node_counts, capped}
use Rattle.definition_expansion.specs.WellUsed.{IsFree, IsTest, no_use, use_of, IsBare, no_bare_use, bare_use, UsesWell, MembersUseWell, AreRanked}
use Rattle.definition_expansion.proofs.SizeLemmas.{node_counts_stop}

-- ---- numbers of nodes that stop at a bound

module _ (most : ℕ) where
  mutual
    term_capped : (t : TermSyntax) → fold_term (capped most node_counts) t ≡ min most (fold_term node_counts t)
    term_capped (alone x) = refl
    term_capped (applied f ts) = omega (arith, terms_capped ts)
    term_capped (grouped_term t) = omega (arith, term_capped t)

    terms_capped : (ts : TermsSyntax) → fold_terms (capped most node_counts) ts ≡ min most (fold_terms node_counts ts)
    terms_capped no_terms = refl
    terms_capped (more_terms t ts) = omega (arith, term_capped t, terms_capped ts)

  sides_capped : (op : BinaryOperator) (m n a b : ℕ) → m ≡ min most a → n ≡ min most b →
      min most (1 + nodes_of_sides op m n) ≡ min most (1 + nodes_of_sides op a b)
  sides_capped op m n a b h k = (node_counts_stop most).between op m n a b (omega (arith, h)) (omega (arith, k))

  or_capped : (o : Option ℕ) (m n : ℕ) → m ≡ min most n → number_or (option_map (min most) o) m ≡ min most (number_or o n)
  or_capped None m n h = h
  or_capped (Some k) m n h = refl

  module _ (exact stopped : List ℕ → Option ℕ) (agree : (x : List ℕ) → stopped x ≡ option_map (min most) (exact x)) where
    test_capped : (p : List ℕ) (names : Option (List (List ℕ))) →
        number_of_test (capped most node_counts) stopped p names ≡ option_map (min most) (number_of_test node_counts exact p names)
    test_capped p None = refl
    test_capped p (Some ys) = agree p

    mutual
      pub formula_capped : (a : FormulaSyntax) → fold_by (capped most node_counts) stopped a ≡ min most (fold_by node_counts exact a)
      formula_capped truth = refl
      formula_capped falsehood = refl
      formula_capped (bare x) = ap (λ o. number_or o (min most 2)) (agree x) ∙ or_capped (exact x) (min most 2) 2 refl
      formula_capped (tested p ts) =
          let own : min most (1 + fold_terms (capped most node_counts) ts) ≡ min most (1 + fold_terms node_counts ts) =
          omega (arith, terms_capped ts) in
          ap (λ o. number_or o (min most (1 + fold_terms (capped most node_counts) ts))) (test_capped p (passed_names ts))
          ∙ or_capped (number_of_test node_counts exact p (passed_names ts)) _ (1 + fold_terms node_counts ts) own
      formula_capped (updated x t) = omega (arith, term_capped t)
      formula_capped (grouped a) = omega (arith, formula_capped a)
      formula_capped (under op a) = omega (arith, formula_capped a)
      formula_capped (between op a b) = sides_capped op _ _ _ _ (formula_capped a) (formula_capped b)
      formula_capped (joined op fs) = omega (arith, members_capped fs)

      members_capped : (fs : FormulasSyntax) → fold_members_by (capped most node_counts) stopped fs
          ≡ min most (fold_members_by node_counts exact fs)
      members_capped no_formulas = refl
      members_capped (more_formulas f fs) = omega (arith, formula_capped f, members_capped fs)

-- ---- tables

module _ (F : Fold) (named : List ℕ → Option Definition) (rank : List ℕ → ℕ) where
  module _ (n : ℕ) (t u : List ℕ → Option ℕ) (used : (x : List ℕ) → rank x < n → t x ≡ u x)
      (unused : (x : List ℕ) → IsFree named rank x → t x ≡ u x) where
    bare_same : (x : List ℕ) (own : ℕ) → IsBare named rank n x → number_or (t x) own ≡ number_or (u x) own
    bare_same x own (no_bare_use away) = ap (λ o. number_or o own) (unused x away)
    bare_same x own (bare_use k) = ap (λ o. number_or o own) (used x k.is_lower)

    test_same : (p : List ℕ) (names : Option (List (List ℕ))) → t p ≡ u p → number_of_test F t p names ≡ number_of_test F u p names
    test_same p None h = refl
    test_same p (Some ys) h = h

    name_same : (p : List ℕ) (ts : TermsSyntax) → IsTest named rank n p ts → t p ≡ u p
    name_same p ts (no_use away terms) = unused p away
    name_same p ts (use_of ys is k) = used p k.is_lower

    -- two tables that agree on what a formula uses give it one number
    mutual
      pub formula_same : (a : FormulaSyntax) → UsesWell named rank n a → fold_by F t a ≡ fold_by F u a
      formula_same truth h = refl
      formula_same falsehood h = refl
      formula_same (bare x) h = bare_same x F.of_bare h
      formula_same (tested p ts) h =
          ap (λ o. number_or o (F.of_tested (fold_terms F ts))) (test_same p (passed_names ts) (name_same p ts h))
      formula_same (updated x t) h = refl
      formula_same (grouped a) h = ap F.of_group (formula_same a h)
      formula_same (under op a) h = ap F.of_under (formula_same a h)
      formula_same (between op a b) h = λ i. F.of_between op (formula_same a h.0 i) (formula_same b h.1 i)
      formula_same (joined op fs) h = ap F.of_joined (members_same fs h)

      members_same : (fs : FormulasSyntax) → MembersUseWell named rank n fs → fold_members_by F t fs ≡ fold_members_by F u fs
      members_same no_formulas h = refl
      members_same (more_formulas f fs) h = λ i. F.of_more_members (formula_same f h.0 i) (members_same fs h.1 i)

  none_within : (n : ℕ) (x : List ℕ) → IsFree named rank x → number_within F named n x ≡ None
  none_within zero x away = refl
  none_within (suc n) x away = ap (option_map _) away

  module _ (ranked : AreRanked named rank) where
    -- above the rank of a definition its number stays
    pub stays : (n : ℕ) (x : List ℕ) → rank x < n → number_within F named (suc n) x ≡ number_within F named n x
    stays zero x less = absurd (omega (arith, less))
    stays (suc n) x less = of_body (named x) (λ d is. formula_same (rank x) (number_within F named (suc n)) (number_within F named n)
        (λ y lower. stays n y (omega (arith, lower, less)))
        (λ y away. none_within (suc n) y away ∙ sym (none_within n y away)) d.body (ranked.bodies x d is)) refl
      where
        of_body : (o : Option Definition) → ((d : Definition) → named x ≡ Some d →
            fold_by F (number_within F named (suc n)) d.body ≡ fold_by F (number_within F named n) d.body) → named x ≡ o →
            option_map (λ d. F.of_group (fold_by F (number_within F named (suc n)) d.body)) o
            ≡ option_map (λ d. F.of_group (fold_by F (number_within F named n) d.body)) o
        of_body None same is = refl
        of_body (Some d) same is = ap (λ m. Some (F.of_group m)) (same d is)

    -- the number that a table in the making gives the next definition is the right one
    pub next_number : (n : ℕ) (x : List ℕ) (d : Definition) (t : List ℕ → Option ℕ) → named x ≡ Some d → rank x < n →
        ((y : List ℕ) → rank y < rank x → t y ≡ number_within F named n y) → ((y : List ℕ) → IsFree named rank y → t y ≡ None) →
        Some (F.of_group (fold_by F t d.body)) ≡ number_within F named n x
    next_number n x d t is less done free =
        ap (λ m. Some (F.of_group m))
        (formula_same (rank x) t (number_within F named n) done (λ y away. free y away ∙ sym (none_within n y away)) d.body
        (ranked.bodies x d is))
        ∙ sym (ap (option_map (λ k. F.of_group (fold_by F (number_within F named n) k.body))) is) ∙ stays n x less
