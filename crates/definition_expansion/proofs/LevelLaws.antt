-- Where an expansion is within the levels: exactly where each use is.
use Rattle.std.proofs.Common.{◌≡◌, ℕ, zero, suc, ◌+◌, ◌≤◌, max, List, [], ◌∷◌, ◌++◌, Option, Some, None, refl, sym, ◌∙◌, subst, arith}
use Rattle.std.specs.Prelude.{option_map}
use Rattle.tsl_terms.specs.declared.operator.BinaryOperator.{BinaryOperator}
use Rattle.tsl_terms.specs.declared.operator.BinaryOperator.TheVariants.{Implication, Equivalence, Until, WeakUntil, Release}
use Rattle.spec_syntax.specs.Syntax.{FormulaSyntax, truth, falsehood, bare, tested, updated, grouped, under}
use Rattle.spec_syntax.specs.Syntax.{between, joined, FormulasSyntax, no_formulas, more_formulas}
use Rattle.spec_syntax.specs.Grammar.{brackets_atom}
use Rattle.spec_syntax.specs.Levels.{depth, members_depth, depth_of_sides}
use Rattle.spec_syntax.specs.Syntax.{Definition}
use Rattle.definition_expansion.specs.Expansion.{passed, passed_names, expanded, expansion_within}
use Rattle.definition_expansion.specs.Folds.{number_or, fold_terms, number_of_test, fold_by, fold_members_by, number_within, depths}
use Rattle.definition_expansion.specs.UseLevels.{At, level_of_right, test_at, uses_at, members_uses_at, IsUseWithin, AreWithin}
use Rattle.spec_syntax.proofs.Written.{formula_fits}
use Rattle.definition_expansion.specs.Derivable.{Derivable, FormulaDerives, BodiesDerive}
use Rattle.definition_expansion.proofs.Derived.{AtomDerives, PutsAtoms, formula_derives}
use Rattle.definition_expansion.proofs.FoldLaws.{depth_is, number_of_expansion, terms_depth_is, term_depth_is}

module _ (named : List ℕ → Option Definition) (bodies : BodiesDerive named) where
  grouped_derives : (g : FormulaSyntax) (n : ℕ) → ((m : ℕ) → depth g ≤ m → FormulaDerives m g) → depth (grouped g) ≤ n →
      AtomDerives n (grouped g)
  grouped_derives g zero inner few = absurd (omega (arith, few))
  grouped_derives g (suc n) inner few = brackets_atom (inner n (omega (arith, few)))

  pub puts_atoms : (n : ℕ) → PutsAtoms (expansion_within named n)
  puts_atoms zero x ys f m is few = cc
  puts_atoms (suc n) x ys f m is few = of_body (named x) refl is (puts_atoms n)
    where
      of_body : (o : Option Definition) → named x ≡ o →
          option_map (λ d. grouped (expanded (expansion_within named n) (passed d.parameters ys) d.body)) o ≡ Some f →
          PutsAtoms (expansion_within named n) → AtomDerives m f
      of_body None e h atoms = cc
      of_body (Some d) e h atoms =
          let b = bodies x d e in
          let same : grouped (expanded (expansion_within named n) (passed d.parameters ys) d.body) ≡ f = cc in
          subst (AtomDerives m) same
          (grouped_derives (expanded (expansion_within named n) (passed d.parameters ys) d.body) m
          (λ k small. formula_derives (expansion_within named n) atoms (passed d.parameters ys) k b.derived small)
          (subst (λ g. depth g ≤ m) (sym same) few))

  -- the expansion derives with exactly as many levels as its depth asks for, which is computed without making it
  pub expansion_derives : (n : ℕ) (a : FormulaSyntax) → Derivable a → (levels_left : ℕ) → fold_by depths (number_within depths named n) a ≤ levels_left →
      FormulaDerives levels_left (expanded (expansion_within named n) (λ x. x) a)
  expansion_derives n a h levels_left few =
      formula_derives (expansion_within named n) (puts_atoms n) (λ x. x) levels_left h.derived
      (subst (λ m. m ≤ levels_left) (sym (number_of_expansion depths named n (λ x. x) a)
      ∙ depth_is (expanded (expansion_within named n) (λ x. x) a)) few)

  pub expansion_needs : (n : ℕ) (a : FormulaSyntax) (levels_left : ℕ) → FormulaDerives levels_left (expanded (expansion_within named n) (λ x. x) a) →
      fold_by depths (number_within depths named n) a ≤ levels_left
  expansion_needs n a levels_left h =
      subst (λ m. m ≤ levels_left) (sym (depth_is (expanded (expansion_within named n) (λ x. x) a))
      ∙ number_of_expansion depths named n (λ x. x) a)
      (formula_fits h)

-- ---- the uses of a formula, each at its level

module _ (deepest : ℕ) (needs : List ℕ → Option ℕ) where
  pub both_within : (us vs : List At) → AreWithin deepest needs us → AreWithin deepest needs vs → AreWithin deepest needs (us ++ vs)
  both_within [] vs h k = k
  both_within (u ∷ us) vs h k = (h.0, both_within us vs h.1 k)

  pub front_within : (us vs : List At) → AreWithin deepest needs (us ++ vs) → AreWithin deepest needs us
  front_within [] vs h = tt
  front_within (u ∷ us) vs h = (h.0, front_within us vs h.1)

  pub back_within : (us vs : List At) → AreWithin deepest needs (us ++ vs) → AreWithin deepest needs vs
  back_within [] vs h = h
  back_within (u ∷ us) vs h = back_within us vs h.1

  name_within : (level : ℕ) (o : Option ℕ) (own : ℕ) → level + number_or o own ≤ deepest → IsUseWithin deepest level o
  name_within level None own few = tt
  name_within level (Some n) own few = few

  name_fits : (level : ℕ) (o : Option ℕ) (own : ℕ) → level + own ≤ deepest → IsUseWithin deepest level o → level + number_or o own ≤ deepest
  name_fits level None own few h = few
  name_fits level (Some n) own few h = h

  test_within : (level : ℕ) (p : List ℕ) (names : Option (List (List ℕ))) (own : ℕ) →
      level + number_or (number_of_test depths needs p names) own ≤ deepest → AreWithin deepest needs (test_at level p names)
  test_within level p None own few = tt
  test_within level p (Some ys) own few = (name_within level (needs p) own few, tt)

  test_fits : (level : ℕ) (p : List ℕ) (names : Option (List (List ℕ))) (own : ℕ) → level + own ≤ deepest →
      AreWithin deepest needs (test_at level p names) → level + number_or (number_of_test depths needs p names) own ≤ deepest
  test_fits level p None own few h = few
  test_fits level p (Some ys) own few h = name_fits level (needs p) own few h.0

  right_side : (op : BinaryOperator) (level m n : ℕ) → level + depth_of_sides op m n ≡ max (level + m) (level_of_right op level + n)
  right_side Implication level m n = omega arith
  right_side Equivalence level m n = omega arith
  right_side Until level m n = omega arith
  right_side WeakUntil level m n = omega arith
  right_side Release level m n = omega arith

  mutual
    pub uses_are_within : (level : ℕ) (a : FormulaSyntax) → level + fold_by depths needs a ≤ deepest →
        AreWithin deepest needs (uses_at level a)
    uses_are_within level truth few = tt
    uses_are_within level falsehood few = tt
    uses_are_within level (bare x) few = (name_within level (needs x) 0 few, tt)
    uses_are_within level (tested p ts) few = test_within level p (passed_names ts) (fold_terms depths ts) few
    uses_are_within level (updated x t) few = tt
    uses_are_within level (grouped a) few = uses_are_within (suc level) a (omega (arith, few))
    uses_are_within level (under op a) few = uses_are_within (suc level) a (omega (arith, few))
    uses_are_within level (between op a b) few =
        let e = right_side op level (fold_by depths needs a) (fold_by depths needs b) in
        both_within (uses_at level a) (uses_at (level_of_right op level) b) (uses_are_within level a (omega (arith, e, few)))
        (uses_are_within (level_of_right op level) b (omega (arith, e, few)))
    uses_are_within level (joined op fs) few = members_are_within level fs few

    members_are_within : (level : ℕ) (fs : FormulasSyntax) → level + fold_members_by depths needs fs ≤ deepest →
        AreWithin deepest needs (members_uses_at level fs)
    members_are_within level no_formulas few = tt
    members_are_within level (more_formulas f fs) few =
        both_within (uses_at level f) (members_uses_at level fs) (uses_are_within level f (omega (arith, few)))
        (members_are_within level fs (omega (arith, few)))

  -- a formula that is within the levels as it is written is so expanded, where each of its uses is
  mutual
    pub formula_is_within : (level : ℕ) (a : FormulaSyntax) → level + depth a ≤ deepest → AreWithin deepest needs (uses_at level a) →
        level + fold_by depths needs a ≤ deepest
    formula_is_within level truth few h = few
    formula_is_within level falsehood few h = few
    formula_is_within level (bare x) few h = name_fits level (needs x) 0 few h.0
    formula_is_within level (tested p ts) few h =
        test_fits level p (passed_names ts) (fold_terms depths ts) (subst (λ n. level + n ≤ deepest) (sym (terms_depth_is ts)) few) h
    formula_is_within level (updated x t) few h = subst (λ n. level + n ≤ deepest) (sym (term_depth_is t)) few
    formula_is_within level (grouped a) few h = omega (arith, formula_is_within (suc level) a (omega (arith, few)) h)
    formula_is_within level (under op a) few h = omega (arith, formula_is_within (suc level) a (omega (arith, few)) h)
    formula_is_within level (between op a b) few h =
        let e = right_side op level (fold_by depths needs a) (fold_by depths needs b) in
        let k = right_side op level (depth a) (depth b) in
        let left = formula_is_within level a (omega (arith, k, few))
        (front_within (uses_at level a) (uses_at (level_of_right op level) b) h) in
        let right = formula_is_within (level_of_right op level) b (omega (arith, k, few))
        (back_within (uses_at level a) (uses_at (level_of_right op level) b) h) in
        omega (arith, e, left, right)
    formula_is_within level (joined op fs) few h = members_within level fs few h

    members_within : (level : ℕ) (fs : FormulasSyntax) → level + members_depth fs ≤ deepest →
        AreWithin deepest needs (members_uses_at level fs) → level + fold_members_by depths needs fs ≤ deepest
    members_within level no_formulas few h = few
    members_within level (more_formulas f fs) few h =
        let head = formula_is_within level f (omega (arith, few)) (front_within (uses_at level f) (members_uses_at level fs) h) in
        let rest = members_within level fs (omega (arith, few)) (back_within (uses_at level f) (members_uses_at level fs) h) in
        omega (arith, head, rest)
