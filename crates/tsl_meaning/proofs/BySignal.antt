-- Truths of probes over the one signal of a column.
use Rattle.std.proofs.Common.{◌≡◌, ◌∙◌, ℕ, zero, suc, ◌+◌, ◌<◌, Bool, false, List, [], ◌∷◌, ◌++◌, length, take, drop, slice_get}
use Rattle.std.proofs.Common.{Option, Some, None, map, sym, ap, subst, arith}
use Rattle.std.specs.Prelude.{option_and_then, IsSome, IfSome}
use Rattle.std.specs.Option.{option_map_or}
use Rattle.std.specs.List.{AllByRecursion}
use Rattle.base_library.proofs.Each.{each_map, each_unmapped}
use Rattle.std.proofs.lemmas.List.{map_push}
use Rattle.std.proofs.lemmas.Option.{same_Some}
use Rattle.base_library.proofs.Lists.{map_map}
use Rattle.base_library.proofs.Places.{slice_get_some, take_next}
use Rattle.tsl_terms.specs.TermTree.{signal, no_terms, more_terms, ProbeTree}
use Rattle.tsl_terms.specs.Value.{Meanings, values, truth}
use Rattle.interp_core.specs.declared.leaves.Leaves.{Leaves}
use Rattle.interp_core.specs.LeafValue.{leaf_value}
use Rattle.tsl_meaning.specs.internal.Columns.{AreOf}

-- one member of a list by itself
pub one_of : {X : Type 0} (xs : List X) (i n : ℕ) (x : X) → n ≡ 1 → slice_get xs i ≡ Some x → take n (drop i xs) ≡ x ∷ []
one_of {X = X} xs i n x single is = ap (λ k. take k (drop i xs)) single ∙ at xs i is
  where
    at : (ys : List X) (j : ℕ) → slice_get ys j ≡ Some x → take 1 (drop j ys) ≡ x ∷ []
    at [] j found = cc
    at (y ∷ ys) zero found = ap (λ z. z ∷ []) (same_Some y x found)
    at (y ∷ ys) (suc j) found = at ys j found

-- one test more
pub one_tested : {X : Type 0} (f : X → Bool) (xs : List X) (i : ℕ) (old new : List Bool) (b : Bool) → i < length xs →
    old ≡ map f (take i xs) → ((x : X) → slice_get xs i ≡ Some x → b ≡ f x) → new ≡ old ++ b ∷ [] → new ≡ map f (take (i + 1) xs)
one_tested f xs i old new b within so_far said pushed =
    let found = slice_get_some xs i within in
    let next : i + 1 ≡ suc i = omega arith in
    pushed ∙ (λ k. so_far k ++ said found.0 found.1 k ∷ []) ∙ sym (map_push f (take i xs) found.0)
    ∙ ap (map f) (sym (ap (λ n. take n xs) next ∙ take_next xs i found.0 found.1))

module _ {V S : Type 0} (seen : V → S) (meanings : Meanings S) (leaves : List (Leaves V)) where
  -- the values of the arguments at each position, where they are one signal
  pub alone : (s : ℕ) (column : List V) → AreOf seen leaves s column →
      map (λ l. values meanings (leaf_value seen l) (more_terms (signal s) no_terms)) leaves ≡ map (λ v. Some (seen v ∷ [])) column
  alone s column are =
      let one : Option S → Option (List S) = λ o. option_and_then (λ v. Some (v ∷ [])) o in
      sym (map_map one (λ l. leaf_value seen l s) leaves) ∙ ap (map one) (sym are) ∙ map_map one (λ v. Some (seen v)) column

  module _ (probe : ProbeTree) (column : List V)
      (are : map (λ l. values meanings (leaf_value seen l) probe.arguments) leaves ≡ map (λ v. Some (seen v ∷ [])) column) where
    pub column_had : AllByRecursion (λ l. IsSome (truth meanings (leaf_value seen l) probe)) leaves →
        AllByRecursion (λ v. IsSome (meanings.predicate probe.predicate (seen v ∷ []))) column
    column_had had =
        let P : Option (List S) → Type 0 = λ o. IsSome (option_and_then (meanings.predicate probe.predicate) o) in
        each_unmapped P (λ v. Some (seen v ∷ [])) column
        (subst (AllByRecursion P) are (each_map P (λ l. values meanings (leaf_value seen l) probe.arguments) leaves had))

    pub column_listed : (truths : List Bool) →
        truths ≡ map (λ v. option_map_or (λ (b : Bool). b) (meanings.predicate probe.predicate (seen v ∷ [])) false) column →
        truths ≡ map (λ l. option_map_or (λ (b : Bool). b) (truth meanings (leaf_value seen l) probe) false) leaves
    column_listed truths listed =
        let holds : Option (List S) → Bool =
        λ o. option_map_or (λ (b : Bool). b) (option_and_then (meanings.predicate probe.predicate) o) false in
        listed ∙ sym (map_map holds (λ v. Some (seen v ∷ [])) column) ∙ ap (map holds) (sym are)
        ∙ map_map holds (λ l. values meanings (leaf_value seen l) probe.arguments) leaves

-- what is had of a value that may be there
pub if_there : {X : Type 0} (P Q : X → Type 0) (o : Option X) → ((x : X) → P x → Q x) → IfSome o P → IfSome o Q
if_there P Q None more had = had
if_there P Q (Some x) more had = more x had
