-- The steps of the loops that weigh choices and copy those that are flagged.
use Rattle.std.proofs.Common.{◌≡◌, ◌∙◌, ℕ, ◌+◌, ◌<◌, ◌≤◌, Bool, true, cond, ◌&&◌, nat_lt, List, [], ◌∷◌, ◌++◌, map, filter, take, length}
use Rattle.std.proofs.Common.{get_or, refl, sym, ap, subst, arith}
use Rattle.std.specs.List.{list_all, AllByRecursion}
use Rattle.std.specs.declared.cmp.Ordering.TheVariants.{Less}
use Rattle.std.specs.Ordering.{nat_cmp}
use Rattle.std.proofs.lemmas.List.{take_more, map_push}
use Rattle.std.proofs.lemmas.Bool.{ltb-true, lt-ltb, eqb-true, and_parts}
use Rattle.base_library.proofs.Each.{each_joined, each_weaker}
use Rattle.ltl_formula.specs.Increasing.{IsIncreasing}
use Rattle.obligations.specs.declared.numbered.NumberedChoice.{NumberedChoice}
use Rattle.obligations.specs.Numbers.{ChoiceKey, choice_key, choice_keys}
use Rattle.obligations.specs.internal.Rounds.{IsRisingChoice, weight, rises_after, numbers_rise, is_rising, flagged_members}

module _ (cs : List NumberedChoice) (i : ℕ) (c : NumberedChoice) (within : i < length cs) (at : c ≡ get_or cs i c) where
  one_more_key : choice_keys (take (i + 1) cs) ≡ choice_keys (take i cs) ++ choice_key c ∷ []
  one_more_key = ap choice_keys (take_more cs i c within ∙ ap (λ d. take i cs ++ d ∷ []) (sym at)) ∙ map_push choice_key (take i cs) c

  pub weights_step : (ws new : List ℕ) (own : ℕ) → own ≡ weight (choice_key c) → ws ≡ map weight (choice_keys (take i cs)) →
      new ≡ ws ++ own ∷ []
      → new ≡ map weight (choice_keys (take (i + 1) cs))
  weights_step ws new own is before pushed =
      pushed ∙ (λ k. before k ++ is k ∷ []) ∙ sym (map_push weight (choice_keys (take i cs)) (choice_key c))
      ∙ ap (map weight) (sym one_more_key)

  pub bound_step : (own bound next : ℕ) → own ≡ weight (choice_key c) → AllByRecursion (λ d. weight d < bound) (choice_keys (take i cs)) →
      bound ≤ next → own < next
      → AllByRecursion (λ d. weight d < next) (choice_keys (take (i + 1) cs))
  bound_step own bound next is before more less =
      subst (AllByRecursion (λ d. weight d < next)) (sym one_more_key)
      (each_joined (λ d. weight d < next) (choice_keys (take i cs)) (choice_key c ∷ [])
      (each_weaker (λ d. weight d < bound) (λ d. weight d < next) (λ d h. omega arith) (choice_keys (take i cs)) before)
      ((omega (arith, is, less)), tt))

smaller : (m : ℕ) (ks : List ℕ) → AllByRecursion (λ k. m < k) ks → AllByRecursion (λ k. nat_cmp m k ≡ Less) ks
smaller m ks = each_weaker (λ k. m < k) (λ k. nat_cmp m k ≡ Less) (λ k less. rw (lt-ltb m k less) refl) ks

above : (n : ℕ) (ms : List ℕ) → rises_after n ms ≡ true → AllByRecursion (λ m. n < m) ms × IsIncreasing nat_cmp ms
above n [] h = (tt, tt)
above n (m ∷ ms) h =
    let parts = and_parts (nat_lt n m) (rises_after m ms) h in
    let less = ltb-true n m parts.0 in
    let rest = above m ms parts.1 in
    ((less, each_weaker (λ k. m < k) (λ k. n < k) (λ k j. omega arith) ms rest.0), (smaller m ms rest.0, rest.1))

increasing : (ns : List ℕ) → numbers_rise ns ≡ true → IsIncreasing nat_cmp ns
increasing [] h = tt
increasing (n ∷ ns) h = let r = above n ns h in (smaller n ns r.0, r.1)

pub all_rising : (cs : List ChoiceKey) → list_all is_rising cs ≡ true → AllByRecursion IsRisingChoice cs
all_rising [] h = tt
all_rising (c ∷ cs) h =
    let parts = and_parts (is_rising c) (list_all is_rising cs) h in
    let first = and_parts _ (numbers_rise c.next_set && numbers_rise c.postponed) parts.0 in
    let sets = and_parts (numbers_rise c.next_set) (numbers_rise c.postponed) first.1 in (
      record {
        within = eqb-true _ c.want first.0;
        next_rises = increasing c.next_set sets.0;
        postponed_rises = increasing c.postponed sets.1;
      },
      all_rising cs parts.1,
    )

-- flags that a test tells leave the members that pass it
pub flagged_is : (p : ChoiceKey → Bool) (cs : List ChoiceKey) → flagged_members cs (map p cs) ≡ filter p cs
flagged_is p [] = refl
flagged_is p (c ∷ cs) = ap (λ r. cond (p c) (c ∷ r) r) (flagged_is p cs)
