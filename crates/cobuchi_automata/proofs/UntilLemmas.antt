-- The untils of a formula are untils.
use Rattle.std.proofs.Common.{◌≡◌, ◌∙◌, List, [], ◌∷◌, ◌++◌, Bool, true, false, if◌then◌else◌, refl, sym, ap}
use Rattle.std.specs.List.{AllByRecursion}
use Rattle.base_library.specs.Kept.{with_new, is_kept}
use Rattle.base_library.proofs.Each.{each_joined, each_left, each_right}
use Rattle.base_library.proofs.Kept.{with_new-append, with_new-step}
use Rattle.ltl_formula.specs.LtlTree.{LtlTree, LtlTrees, top, bottom, bit, not_bit, conjunction, disjunction, next, until, release}
use Rattle.ltl_formula.specs.LtlTree.{no_formulas, more_formulas}
use Rattle.obligations.specs.Expansion.{same_formula}
use Rattle.obligations.specs.Obligations.{obligations, obligations_of_all}
use Rattle.cobuchi_automata.specs.Automata.{untils_in, untils_in_all, untils_of}

pub record IsUntil (f : LtlTree) : Type 0 where
  pub left : LtlTree
  pub right : LtlTree
  pub is : f ≡ until left right

mutual
  each_in : (f : LtlTree) → AllByRecursion IsUntil (untils_in f)
  each_in top = tt
  each_in bottom = tt
  each_in (bit b) = tt
  each_in (not_bit b) = tt
  each_in (conjunction fs) = each_in_all fs
  each_in (disjunction fs) = each_in_all fs
  each_in (next a) = each_in a
  each_in (until a b) = (record { left = a; right = b; is = refl }, each_joined IsUntil (untils_in a) (untils_in b) (each_in a) (each_in b))
  each_in (release a b) = each_joined IsUntil (untils_in a) (untils_in b) (each_in a) (each_in b)

  each_in_all : (fs : LtlTrees) → AllByRecursion IsUntil (untils_in_all fs)
  each_in_all no_formulas = tt
  each_in_all (more_formulas f fs) = each_joined IsUntil (untils_in f) (untils_in_all fs) (each_in f) (each_in_all fs)

each_new : {A : Type 0} (P : A → Type 0) (same : A → A → Bool) (kept xs : List A) → AllByRecursion P kept → AllByRecursion P xs →
    AllByRecursion P (with_new same kept xs)
each_new {A = A} P same kept [] first rest = first
each_new {A = A} P same kept (x ∷ xs) first rest = by (is_kept same kept x) (λ ks each. each_new P same ks xs each rest.1)
  where
    by : (b : Bool) → ((ks : List A) → AllByRecursion P ks → AllByRecursion P (with_new same ks xs)) →
        AllByRecursion P (with_new same (if b then kept else kept ++ x ∷ []) xs)
    by true go = go kept first
    by false go = go (kept ++ x ∷ []) (each_joined P kept (x ∷ []) first (rest.0, tt))

pub untils_are : (f : LtlTree) → AllByRecursion IsUntil (untils_of f)
untils_are f = each_new IsUntil same_formula [] (untils_in f) tt (each_in f)

-- what holds of what steps from a formula may leave holds of its untils
module _ (P : LtlTree → Type 0) where
  mutual
    each_until : (f : LtlTree) → AllByRecursion P (obligations f) → AllByRecursion P (untils_in f)
    each_until top each = tt
    each_until bottom each = tt
    each_until (bit b) each = tt
    each_until (not_bit b) each = tt
    each_until (conjunction fs) each = each_until_of_all fs each
    each_until (disjunction fs) each = each_until_of_all fs each
    each_until (next a) each = each_until a each.1
    each_until (until a b) each = (
      each.0,
      each_joined P (untils_in a) (untils_in b)
          (each_until a (each_left P (obligations a) (obligations b) each.1))
          (each_until b (each_right P (obligations a) (obligations b) each.1)),
    )
    each_until (release a b) each = each_joined P (untils_in a) (untils_in b)
        (each_until a (each_left P (obligations a) (obligations b) each.1))
        (each_until b (each_right P (obligations a) (obligations b) each.1))

    each_until_of_all : (fs : LtlTrees) → AllByRecursion P (obligations_of_all fs) → AllByRecursion P (untils_in_all fs)
    each_until_of_all no_formulas each = tt
    each_until_of_all (more_formulas f fs) each = each_joined P (untils_in f) (untils_in_all fs)
        (each_until f (each_left P (obligations f) (obligations_of_all fs) each))
        (each_until_of_all fs (each_right P (obligations f) (obligations_of_all fs) each))

  pub each_until_of : (f : LtlTree) → AllByRecursion P (obligations f) → AllByRecursion P (untils_of f)
  each_until_of f each = each_new P same_formula [] (untils_in f) tt (each_until f each)

-- gathered one formula after another
pub untils_append : (kept xs ys : List LtlTree)
    → with_new same_formula kept (xs ++ ys) ≡ with_new same_formula (with_new same_formula kept xs) ys
untils_append kept xs ys = sym (with_new-append same_formula kept xs ys)

pub rest_step : (old new all : List LtlTree) (f : LtlTree) (rest fs : LtlTrees) → rest ≡ more_formulas f fs
    → with_new same_formula old (untils_in_all rest) ≡ all → new ≡ with_new same_formula old (untils_in f) →
    with_new same_formula new (untils_in_all fs) ≡ all
rest_step old new all f rest fs is before grown =
    with_new-step same_formula old new (untils_in f) (untils_in_all fs) all
    (ap (λ r. with_new same_formula old (untils_in_all r)) (sym is) ∙ before) grown
