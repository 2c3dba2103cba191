-- Numbers stand for formulas: the order, equality and sets of numbers are those of the formulas with these numbers.
use Rattle.std.proofs.Common.{◌≡◌, ◌∙◌, ℕ, suc, ◌+◌, ◌<◌, Bool, true, false, cond, not, ◌&&◌, ◌||◌, ◌==◌, nat_lt, nat_eq, List, [], ◌∷◌}
use Rattle.std.proofs.Common.{map, length, refl, ap, arith}
use Rattle.std.specs.Prelude.{unwrap_or}
use Rattle.std.specs.List.{list_any, AllByRecursion}
use Rattle.std.specs.Cmp.Lexicographic.{pointwise}
use Rattle.std.specs.declared.cmp.Ordering.{Ordering}
use Rattle.std.specs.declared.cmp.Ordering.TheVariants.{Less, Equal, Greater}
use Rattle.std.specs.Ordering.{nat_cmp, is_eq}
use Rattle.std.proofs.lemmas.Bool.{ltb-true, eqb-true, false≢true}
use Rattle.std.proofs.lemmas.Cmp.{tied_itself}
use Rattle.base_library.proofs.Places.{slice_get_some}
use Rattle.obligations.specs.Named.{formula_named}
use Rattle.ltl_formula.specs.LtlTree.{LtlTree, top}
use Rattle.ltl_formula.specs.LtlOrder.{tree_cmp}
use Rattle.ltl_formula.specs.Increasing.{IsIncreasing}
use Rattle.ltl_formula.proofs.LtlOrderLaws.{tree_cmp_total, equal_trees}
use Rattle.ltl_formula.proofs.Places.{by_place}
use Rattle.obligations.specs.Choices.{is_subset}
use Rattle.obligations.specs.Expansion.{same_formula}
use Rattle.obligations.specs.Numbers.{formula_number}

is_eq_nat : (m n : ℕ) → is_eq (nat_cmp m n) ≡ nat_eq m n
is_eq_nat m n = by (nat_lt m n) (m == n) refl refl
  where
    by : (l e : Bool) → nat_lt m n ≡ l → (m == n) ≡ e → is_eq (cond l Less (cond e Equal Greater)) ≡ e
    by true true less same = let a = ltb-true m n less in let b = eqb-true m n same in absurd (omega arith)
    by true false less same = refl
    by false true less same = refl
    by false false less same = refl

pub same_is : (f g : LtlTree) → same_formula f g ≡ true → f ≡ g
same_is f g is = by (tree_cmp f g) refl is
  where
    by : (o : Ordering) → tree_cmp f g ≡ o → is_eq o ≡ true → f ≡ g
    by Less e h = absurd (false≢true h)
    by Equal e h = equal_trees f g e
    by Greater e h = absurd (false≢true h)

pub same_itself : (f : LtlTree) → same_formula f f ≡ true
same_itself f = ap is_eq (tied_itself tree_cmp_total f)

-- whether a formula has a number
abbrev pub is_named : List LtlTree → LtlTree → Bool
is_named names f = list_any (λ g. same_formula g f) names

-- the number of a formula leads back to it
pub numbered : (names : List LtlTree) (f : LtlTree) → is_named names f ≡ true →
    (formula_number names f < length names) × (formula_named names (formula_number names f) ≡ f)
numbered [] f h = absurd (false≢true h)
numbered (g ∷ names) f h = by (same_formula g f) refl h (numbered names f)
  where
    by : (b : Bool) → same_formula g f ≡ b → (b || is_named names f) ≡ true
        → (is_named names f ≡ true → (formula_number names f < length names) × (formula_named names (formula_number names f) ≡ f))
        → (cond (not b) (1 + formula_number names f) 0 < length (g ∷ names))
        × (formula_named (g ∷ names) (cond (not b) (1 + formula_number names f) 0) ≡ f)
    by true is h rest = (omega arith, same_is g f is)
    by false is h rest =
        let r = rest h in
        let one : 1 + formula_number names f ≡ suc (formula_number names f) = omega arith in
        (omega (arith, r.0), ap (formula_named (g ∷ names)) one ∙ r.1)

module _ (names : List LtlTree) (rising : IsIncreasing tree_cmp names) where
  pub keeps_order : (m n : ℕ) → m < length names → n < length names → tree_cmp (formula_named names m) (formula_named names n) ≡ nat_cmp m n
  keeps_order m n left right =
      let f = slice_get_some names m left in
      let g = slice_get_some names n right in
      (λ k. tree_cmp (unwrap_or (f.1 k) top) (unwrap_or (g.1 k) top)) ∙ by_place tree_cmp_total names rising m n f.0 g.0 f.1 g.1

  pub keeps_same : (m n : ℕ) → m < length names → n < length names →
      same_formula (formula_named names m) (formula_named names n) ≡ nat_eq m n
  keeps_same m n left right = ap is_eq (keeps_order m n left right) ∙ is_eq_nat m n

  abbrev AreNamed : List ℕ → Type 0
  AreNamed ns = AllByRecursion (λ n. n < length names) ns

  pub pointwise-named : (ms ns : List ℕ) → AreNamed ms → AreNamed ns
      → pointwise same_formula (map (formula_named names) ms) (map (formula_named names) ns) ≡ pointwise nat_eq ms ns
  pointwise-named [] [] left right = refl
  pointwise-named [] (n ∷ ns) left right = refl
  pointwise-named (m ∷ ms) [] left right = refl
  pointwise-named (m ∷ ms) (n ∷ ns) left right = λ k. keeps_same m n left.0 right.0 k && pointwise-named ms ns left.1 right.1 k

  has-named : (m : ℕ) (ns : List ℕ) → m < length names → AreNamed ns
      → list_any (λ g. same_formula g (formula_named names m)) (map (formula_named names) ns) ≡ list_any (λ n. nat_eq n m) ns
  has-named m [] left right = refl
  has-named m (n ∷ ns) left right = λ k. keeps_same n m right.0 left k || has-named m ns left right.1 k

  pub subset-named : (ms ns : List ℕ) → AreNamed ms → AreNamed ns
      → is_subset same_formula (map (formula_named names) ms) (map (formula_named names) ns) ≡ is_subset nat_eq ms ns
  subset-named [] ns left right = refl
  subset-named (m ∷ ms) ns left right = λ k. has-named m ns left.0 right k && subset-named ms ns left.1 right k

  below-named : (m : ℕ) (ns : List ℕ) → m < length names → AreNamed ns → AllByRecursion (λ n. nat_cmp m n ≡ Less) ns
      → AllByRecursion (λ g. tree_cmp (formula_named names m) g ≡ Less) (map (formula_named names) ns)
  below-named m [] left right each = tt
  below-named m (n ∷ ns) left right each = (keeps_order m n left right.0 ∙ each.0, below-named m ns left right.1 each.1)

  -- rising numbers are those of rising formulas
  pub rises-named : (ns : List ℕ) → AreNamed ns → IsIncreasing nat_cmp ns → IsIncreasing tree_cmp (map (formula_named names) ns)
  rises-named [] named up = tt
  rises-named (n ∷ ns) named up = (below-named n ns named.0 named.1 up.0, rises-named ns named.1 up.1)
