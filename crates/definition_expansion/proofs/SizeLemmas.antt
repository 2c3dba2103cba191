-- Numbers of expansions that stop at a bound, by tables that are filled in the order of uses.
use Rattle.std.proofs.Common.{◌≡◌, ◌∙◌, ℕ, min, List, Option, Some, None, refl, ap, arith}
use Rattle.std.specs.Prelude.{option_map}
use Rattle.std.specs.List.{AllByRecursion}
use Rattle.base_library.proofs.Each.{each_left, each_right, each_weaker}
use Rattle.tsl_terms.specs.declared.operator.BinaryOperator.{BinaryOperator}
use Rattle.tsl_terms.specs.declared.operator.BinaryOperator.TheVariants.{Implication, Equivalence, Until, WeakUntil, Release}
use Rattle.spec_syntax.specs.Syntax.{FormulaSyntax, truth, falsehood, bare, tested, updated, grouped, under, between}
use Rattle.spec_syntax.specs.Syntax.{joined, FormulasSyntax, no_formulas, more_formulas}
use Rattle.definition_expansion.specs.Expansion.{passed_names}
use Rattle.definition_expansion.specs.Folds.{Fold, number_or, fold_term, fold_terms, number_of_test, fold_by, fold_members_by, depths, node_counts}
use Rattle.definition_expansion.specs.internal.UseNumbers.{name_of_test, used_names, members_used_names}

-- numbers that are related give numbers that are
pub record Keeps (R : ℕ → ℕ → Type 0) (F : Fold) : Type 0 where
  pub same : (n : ℕ) → R n n
  pub group : (m n : ℕ) → R m n → R (F.of_group m) (F.of_group n)
  pub under : (m n : ℕ) → R m n → R (F.of_under m) (F.of_under n)
  pub between : (op : BinaryOperator) (a b m n : ℕ) → R a m → R b n → R (F.of_between op a b) (F.of_between op m n)
  pub joined : (m n : ℕ) → R m n → R (F.of_joined m) (F.of_joined n)
  pub members : (a b m n : ℕ) → R a m → R b n → R (F.of_more_members a b) (F.of_more_members m n)

-- numbers that agree up to a bound give numbers that do
abbrev pub StopsAt : ℕ → Fold → Type 0
StopsAt most = Keeps (λ m n. min most m ≡ min most n)

module _ (most : ℕ) where
  sides_stop : (op : BinaryOperator) (a b m n : ℕ) → min most a ≡ min most m → min most b ≡ min most n →
      (min most (depths.of_between op a b) ≡ min most (depths.of_between op m n))
      × (min most (node_counts.of_between op a b) ≡ min most (node_counts.of_between op m n))
  sides_stop Implication a b m n h k = (omega (arith, h, k), omega (arith, h, k))
  sides_stop Equivalence a b m n h k = (omega (arith, h, k), omega (arith, h, k))
  sides_stop Until a b m n h k = (omega (arith, h, k), omega (arith, h, k))
  sides_stop WeakUntil a b m n h k = (omega (arith, h, k), omega (arith, h, k))
  sides_stop Release a b m n h k = (omega (arith, h, k), omega (arith, h, k))

  pub depths_stop : StopsAt most depths
  depths_stop = record {
    same = λ n. refl;
    group = λ m n h. omega (arith, h);
    under = λ m n h. omega (arith, h);
    between = λ op a b m n h k. (sides_stop op a b m n h k).0;
    joined = λ m n h. h;
    members = λ a b m n h k. omega (arith, h, k);
  }

  pub node_counts_stop : StopsAt most node_counts
  node_counts_stop = record {
    same = λ n. refl;
    group = λ m n h. h;
    under = λ m n h. omega (arith, h);
    between = λ op a b m n h k. (sides_stop op a b m n h k).1;
    joined = λ m n h. omega (arith, h);
    members = λ a b m n h k. omega (arith, h, k);
  }

-- ---- tables that agree on what a formula uses

module _ (R : ℕ → ℕ → Type 0) (F : Fold) (keeps : Keeps R F) (t u : List ℕ → Option ℕ) where
  abbrev AgreeAt : List ℕ → Type 0
  AgreeAt x = (own : ℕ) → R (number_or (t x) own) (number_or (u x) own)

  test_agrees : (p : List ℕ) (names : Option (List (List ℕ))) (own : ℕ) → AllByRecursion AgreeAt (name_of_test p names) →
      R (number_or (number_of_test F t p names) own) (number_or (number_of_test F u p names) own)
  test_agrees p None own h = keeps.same own
  test_agrees p (Some ys) own h = h.0 own

  mutual
    formula_agrees : (a : FormulaSyntax) → AllByRecursion AgreeAt (used_names a) → R (fold_by F t a) (fold_by F u a)
    formula_agrees truth h = keeps.same F.of_constant
    formula_agrees falsehood h = keeps.same F.of_constant
    formula_agrees (bare x) h = h.0 F.of_bare
    formula_agrees (tested p ts) h = test_agrees p (passed_names ts) (F.of_tested (fold_terms F ts)) h
    formula_agrees (updated x t) h = keeps.same (F.of_updated (fold_term F t))
    formula_agrees (grouped a) h = keeps.group _ _ (formula_agrees a h)
    formula_agrees (under op a) h = keeps.under _ _ (formula_agrees a h)
    formula_agrees (between op a b) h = keeps.between op _ _ _ _ (formula_agrees a (each_left AgreeAt (used_names a) (used_names b) h))
        (formula_agrees b (each_right AgreeAt (used_names a) (used_names b) h))
    formula_agrees (joined op fs) h = keeps.joined _ _ (members_agree fs h)

    members_agree : (fs : FormulasSyntax) → AllByRecursion AgreeAt (members_used_names fs) →
        R (fold_members_by F t fs) (fold_members_by F u fs)
    members_agree no_formulas h = keeps.same F.of_no_members
    members_agree (more_formulas f fs) h =
        keeps.members _ _ _ _ (formula_agrees f (each_left AgreeAt (used_names f) (members_used_names fs) h))
        (members_agree fs (each_right AgreeAt (used_names f) (members_used_names fs) h))

pub formula_same_on : (F : Fold) (t u : List ℕ → Option ℕ) (a : FormulaSyntax) → AllByRecursion (λ x. t x ≡ u x) (used_names a) →
    fold_by F t a ≡ fold_by F u a
formula_same_on F t u a h =
    formula_agrees (λ m n. m ≡ n) F (record {
      same = λ n. refl;
      group = λ m n e. ap F.of_group e;
      under = λ m n e. ap F.of_under e;
      between = λ op a b m n e g. λ i. F.of_between op (e i) (g i);
      joined = λ m n e. ap F.of_joined e;
      members = λ a b m n e g. λ i. F.of_more_members (e i) (g i);
    }) t u a (each_weaker _ _ (λ x e own. ap (λ o. number_or o own) e) (used_names a) h)

module _ (most : ℕ) (F : Fold) (stops : StopsAt most F) (t u : List ℕ → Option ℕ) where
  or_stopped : (o p : Option ℕ) (k : ℕ) → o ≡ option_map (min most) p → min most (number_or o k) ≡ min most (number_or p k)
  or_stopped o None k h = ap (λ q. min most (number_or q k)) h
  or_stopped o (Some n) k h = ap (λ q. min most (number_or q k)) h ∙ twice n
    where
      twice : (n : ℕ) → min most (min most n) ≡ min most n
      twice n = omega arith

  pub formula_stopped : (a : FormulaSyntax) → AllByRecursion (λ x. t x ≡ option_map (min most) (u x)) (used_names a) →
      min most (fold_by F t a) ≡ min most (fold_by F u a)
  formula_stopped a h =
      formula_agrees (λ m n. min most m ≡ min most n) F stops t u a
      (each_weaker _ _ (λ x e own. or_stopped (t x) (u x) own e) (used_names a) h)
