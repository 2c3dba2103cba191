-- The list of the choice alone that asks for nothing and leaves nothing is the unit of products.
use Rattle.std.proofs.Common.{◌≡◌, ◌∙◌, ℕ, ◌<◌, ◌≤◌, ◌==◌, true, cond, nat_eq, min, List, [], ◌∷◌, ◌++◌, length, Some, None}
use Rattle.std.proofs.Common.{refl, sym, ap, subst, arith, bit_and, bit_or}
use Rattle.std.specs.Prelude.{bit_xor}
use Rattle.std.specs.Int.{bit_at}
use Rattle.std.specs.List.{list_all, filter_map, cons_option, AllByRecursion}
use Rattle.std.specs.declared.cmp.Ordering.{Ordering}
use Rattle.std.specs.declared.cmp.Ordering.TheVariants.{Less, Equal, Greater}
use Rattle.std.specs.Ordering.{nat_cmp, match_ordering, MatchOrdering}
use Rattle.std.proofs.lemmas.Bool.{le-ltb}
use Rattle.std.proofs.lemmas.Cmp.{ranked}
use Rattle.std.proofs.lemmas.List.{append-nil, append_assoc}
use Rattle.std.proofs.lemmas.Nat.Bits.{bit_at_and, bit_at-zero, same_from_bits}
use Rattle.base_library.proofs.Each.{each_between}
use Rattle.ltl_formula.specs.Increasing.{IsIncreasing, with_member, union}
use Rattle.obligations.specs.Choices.{joined, reduced, formed, product, most_choices, empty_choice}
use Rattle.obligations.specs.Numbers.{ChoiceKey}
use Rattle.obligations.specs.internal.Rounds.{IsRisingChoice, is_rising}
use Rattle.obligations.specs.internal.Antichains.{IsAntichain}
use Rattle.obligations.proofs.Antichains.{antichain_is_reduced}
use Rattle.obligations.proofs.CaresLemmas.{none_first}
use Rattle.obligations.proofs.WeightLemmas.{all_rising}

-- a member above all others is put behind them
put_last : (y : ℕ) (xs ys : List ℕ) → IsIncreasing nat_cmp (xs ++ y ∷ ys) → with_member nat_cmp y xs ≡ xs ++ y ∷ []
put_last y [] ys up = refl
put_last y (x ∷ xs) ys up = by (nat_cmp y x) (ranked y x (nat_cmp y x) refl) (put_last y xs ys up.1)
  where
    below : x < y
    below = rw (each_between (λ z. nat_cmp x z ≡ Less) xs y ys up.0) at (ranked x y (nat_cmp x y) refl)

    by : (o : Ordering) → MatchOrdering o (y < x) (y ≡ x) (x < y) → with_member nat_cmp y xs ≡ xs ++ y ∷ []
        → match_ordering o (y ∷ (x ∷ xs)) (x ∷ xs) (x ∷ with_member nat_cmp y xs) ≡ x ∷ (xs ++ y ∷ [])
    by Less r rest = absurd (omega (arith, r, below))
    by Equal r rest = absurd (omega (arith, r, below))
    by Greater r rest = ap (λ zs. x ∷ zs) rest

union_of_rising : (xs ys : List ℕ) → IsIncreasing nat_cmp (xs ++ ys) → union nat_cmp xs ys ≡ xs ++ ys
union_of_rising xs [] up = sym (append-nil xs)
union_of_rising xs (y ∷ ys) up =
    ap (λ zs. union nat_cmp zs ys) (put_last y xs ys up)
    ∙ union_of_rising (xs ++ y ∷ []) ys (subst (IsIncreasing nat_cmp) (sym (append_assoc xs (y ∷ []) ys)) up)
    ∙ append_assoc xs (y ∷ []) ys

none_asked : (w c : ℕ) → bit_and (bit_xor 0 w) (bit_and 0 c) ≡ 0
none_asked w c = same_from_bits (bit_and (bit_xor 0 w) (bit_and 0 c)) 0 (λ i.
    bit_at_and (bit_xor 0 w) (bit_and 0 c) i
    ∙ ap (min (bit_at (bit_xor 0 w) i)) (bit_at_and 0 c i ∙ ap (λ n. min n (bit_at c i)) (bit_at-zero i))
    ∙ least (bit_at (bit_xor 0 w) i) (bit_at c i) ∙ sym (bit_at-zero i))
  where
    least : (a b : ℕ) → min a (min 0 b) ≡ 0
    least a b = omega arith

unit_joined : (c : ChoiceKey) → IsRisingChoice c → joined nat_eq nat_cmp empty_choice c ≡ Some c
unit_joined c well =
    ap (λ n. cond (n == 0) (Some (record {
      care = bit_or 0 c.care;
      want = bit_or 0 c.want;
      next_set = union nat_cmp [] c.next_set;
      postponed = union nat_cmp [] c.postponed;
    })) None) (none_asked c.want c.care)
    ∙ (λ i. Some (record {
      care = none_first c.care i;
      want = none_first c.want i;
      next_set = union_of_rising [] c.next_set well.next_rises i;
      postponed = union_of_rising [] c.postponed well.postponed_rises i;
    }))

all_joined : (cs : List ChoiceKey) → AllByRecursion IsRisingChoice cs → filter_map (joined nat_eq nat_cmp empty_choice) cs ≡ cs
all_joined [] well = refl
all_joined (c ∷ cs) well =
    ap (λ o. cons_option o (filter_map (joined nat_eq nat_cmp empty_choice) cs)) (unit_joined c well.0)
    ∙ ap (λ l. c ∷ l) (all_joined cs well.1)

pub unit_product : (unit cs : List ChoiceKey) → unit ≡ empty_choice ∷ [] → list_all is_rising cs ≡ true → IsAntichain cs
    → length cs ≤ most_choices → product nat_eq nat_cmp unit cs ≡ Some cs
unit_product unit cs is rising anti few =
    ap (λ l. product nat_eq nat_cmp l cs) is
    ∙ ap (formed nat_eq) (append-nil (filter_map (joined nat_eq nat_cmp empty_choice) cs) ∙ all_joined cs (all_rising cs rising))
    ∙ ap (λ b. cond b None (Some (reduced nat_eq cs))) (le-ltb most_choices (length cs) few)
    ∙ ap Some (antichain_is_reduced cs anti)
