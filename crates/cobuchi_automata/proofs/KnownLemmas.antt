-- The choices of sets that are made, where one more set is asked for.
use Rattle.std.proofs.Common.{◌≡◌, ◌∙◌, ℕ, ◌+◌, ◌<◌, ◌≤◌, ◌⊎◌, inl, inr, List, [], ◌∷◌, ◌++◌, length, length-append, Some, slice_get, Vec, sym, ap, subst, arith}
use Rattle.std.specs.declared.alloc.Global.{Global}
use Rattle.std.proofs.lemmas.Option.{slice_get_within}
use Rattle.base_library.proofs.Places.{slice_get_some, slice_get_push, slice_get-behind}
use Rattle.ltl_formula.specs.LtlTree.{LtlTree}
use Rattle.obligations.specs.declared.numbered.NumberedChoice.{NumberedChoice}
use Rattle.obligations.specs.Numbers.{choice_keys}
use Rattle.cobuchi_automata.specs.internal.Exploring.{StateKey, Grows}
use Rattle.cobuchi_automata.specs.internal.Known.{HasChoices, AreListed, IsListAt}

module _ (names : List LtlTree) (old new : List StateKey) (k : StateKey) (lists : List (Vec NumberedChoice Global)) (place : ℕ)
    (are : AreListed names old lists) (grows : Grows old k new) (there : slice_get new place ≡ Some k) where
  -- a set that has a list was there before
  was_there : place < length lists → new ≡ old
  was_there within = by grows.grown
    where
      by : (new ≡ old) ⊎ (((i : ℕ) → slice_get old i ≡ Some k → ⊥) × (new ≡ old ++ k ∷ [])) → new ≡ old
      by (inl same) = same
      by (inr more) = on (slice_get_push old k place k (ap (λ l. slice_get l place) (sym more.1) ∙ there))
        where
          on : ((place < length old) × (slice_get old place ≡ Some k)) ⊎ ((place ≡ length old) × (k ≡ k)) → new ≡ old
          on (inl here) = absurd (more.0 place here.1)
          on (inr end) = absurd (omega (arith, within, end.0, are.one_each))

  pub still_listed : place < length lists → AreListed names new lists
  still_listed within = subst (λ keys. AreListed names keys lists) (sym (was_there within)) are

  pub is_listed : place < length lists → IsListAt names k.members lists place
  is_listed within = let found = slice_get_some lists place within in record {
    list = found.0;
    at = found.1;
    has = are.are place k found.0 (ap (λ l. slice_get l place) (sym (was_there within)) ∙ there) found.1;
  }

  -- and one that has none comes last
  is_new : length lists ≤ place → (place ≡ length lists) × (new ≡ old ++ k ∷ [])
  is_new past = by grows.grown
    where
      by : (new ≡ old) ⊎ (((i : ℕ) → slice_get old i ≡ Some k → ⊥) × (new ≡ old ++ k ∷ []))
          → (place ≡ length lists) × (new ≡ old ++ k ∷ [])
      by (inl same) = absurd (omega (arith, slice_get_within old place k (ap (λ l. slice_get l place) (sym same) ∙ there), past, are.one_each))
      by (inr more) = (on (slice_get_push old k place k (ap (λ l. slice_get l place) (sym more.1) ∙ there)), more.1)
        where
          on : ((place < length old) × (slice_get old place ≡ Some k)) ⊎ ((place ≡ length old) × (k ≡ k)) → place ≡ length lists
          on (inl here) = absurd (more.0 place here.1)
          on (inr end) = end.0 ∙ sym are.one_each

  module _ (list : Vec NumberedChoice Global) (past : length lists ≤ place) (has : HasChoices names k.members (choice_keys list.items)) where
    pub one_listed : AreListed names new (lists ++ list ∷ [])
    one_listed = record {
      one_each = length-append lists (list ∷ []) ∙ ap (λ n. n + 1) are.one_each
          ∙ sym (ap length (is_new past).1 ∙ length-append old (k ∷ []));
      are = stand;
    }
      where
        on : (n : ℕ) (j : StateKey) (cs : Vec NumberedChoice Global)
            → ((n < length old) × (slice_get old n ≡ Some j)) ⊎ ((n ≡ length old) × (k ≡ j))
            → ((n < length lists) × (slice_get lists n ≡ Some cs)) ⊎ ((n ≡ length lists) × (list ≡ cs))
            → HasChoices names j.members (choice_keys cs.items)
        on n j cs (inl key) (inl one) = are.are n j cs key.1 one.1
        on n j cs (inl key) (inr one) = absurd (omega (arith, key.0, one.0, are.one_each))
        on n j cs (inr key) (inl one) = absurd (omega (arith, key.0, one.0, are.one_each))
        on n j cs (inr key) (inr one) =
            subst (λ (m : StateKey). HasChoices names m.members (choice_keys cs.items)) key.1
            (subst (λ (l : Vec NumberedChoice Global). HasChoices names k.members (choice_keys l.items)) one.1 has)

        stand : (n : ℕ) (j : StateKey) (cs : Vec NumberedChoice Global) → slice_get new n ≡ Some j → slice_get (lists ++ list ∷ []) n ≡ Some cs
            → HasChoices names j.members (choice_keys cs.items)
        stand n j cs at_key at_list =
            on n j cs (slice_get_push old k n j (ap (λ (l : List StateKey). slice_get l n) (sym (is_new past).1) ∙ at_key))
            (slice_get_push lists list n cs at_list)

    pub last_listed : IsListAt names k.members (lists ++ list ∷ []) place
    last_listed = record {
      list = list;
      at = ap (slice_get (lists ++ list ∷ [])) (is_new past).0 ∙ slice_get-behind lists list [];
      has = has;
    }
