-- A reduced list is an antichain, and an antichain is reduced.
use Rattle.std.proofs.Common.{◌≡◌, ◌∙◌, Bool, true, false, not, ◌&&◌, ◌||◌, cond, List, [], ◌∷◌, ◌++◌, filter}
use Rattle.std.proofs.Common.{refl, sym, ap, nat_eq, if◌then◌else◌}
use Rattle.std.specs.Bool.{⊤}
use Rattle.std.specs.List.{list_all, AllByRecursion}
use Rattle.std.proofs.lemmas.Bool.{false≢true, and_parts}
use Rattle.std.proofs.lemmas.List.{append-nil, append_assoc}
use Rattle.std.proofs.lemmas.List.Folds.{list_any-append}
use Rattle.base_library.specs.Kept.{with_new, is_kept}
use Rattle.base_library.proofs.Each.{each_both, each_joined, each_filtered}
use Rattle.obligations.specs.Choices.{same_choice, is_within, without_repeats, is_larger, without_larger, reduced}
use Rattle.obligations.specs.Numbers.{ChoiceKey}
use Rattle.obligations.specs.internal.Antichains.{AreApart, IsAntichain, are_apart, is_antichain}
use Rattle.obligations.proofs.WithinLemmas.{same_key_is, is_same_key}

-- whether a choice is one that is kept, as repeats are told
abbrev is_repeat : ChoiceKey → ChoiceKey → Bool
is_repeat kept c = same_choice nat_eq c kept

neither : (a b : Bool) → (a || b) ≡ false → (a ≡ false) × (b ≡ false)
neither false b h = (refl, h)
neither true b h = absurd (false≢true (sym h))

is_false : (b : Bool) → not b ≡ true → b ≡ false
is_false false h = refl
is_false true h = absurd (false≢true h)

itself : (c : ChoiceKey) → same_choice nat_eq c c ≡ true
itself c = is_same_key c c refl refl refl refl

turned : (c d : ChoiceKey) → same_choice nat_eq d c ≡ false → same_choice nat_eq c d ≡ false
turned c d differ = by (same_choice nat_eq c d) refl
  where
    by : (b : Bool) → same_choice nat_eq c d ≡ b → b ≡ false
    by false is = refl
    by true is = absurd (false≢true (sym differ ∙ ap (λ e. same_choice nat_eq d e) (same_key_is c d is) ∙ itself d))

-- ---- an antichain is reduced

-- no member lies within one from which all are apart
none_within : (c : ChoiceKey) (cs : List ChoiceKey) → AllByRecursion (AreApart c) cs → is_larger nat_eq cs c ≡ false
none_within c [] each = refl
none_within c (d ∷ cs) each = rw (each.0.second, none_within c cs each.1) refl

-- whether it is larger, where one more stands in front
with_front : (c d : ChoiceKey) (cs : List ChoiceKey) → AreApart c d → is_larger nat_eq cs d ≡ false → is_larger nat_eq (c ∷ cs) d ≡ false
with_front c d cs apart none = rw (apart.first, none) refl

none_larger : (cs : List ChoiceKey) → IsAntichain cs → AllByRecursion (λ c. is_larger nat_eq cs c ≡ false) cs
none_larger [] anti = tt
none_larger (c ∷ cs) anti = (
  first (is_within nat_eq c c) (same_choice nat_eq c c) (is_larger nat_eq cs c) (itself c) (none_within c cs anti.0),
  each_both (AreApart c) (λ d. is_larger nat_eq cs d ≡ false) (λ d. is_larger nat_eq (c ∷ cs) d ≡ false) (λ d. with_front c d cs) cs anti.0
      (none_larger cs anti.1),
)
  where
    first : (w s l : Bool) → s ≡ true → l ≡ false → ((w && not s) || l) ≡ false
    first true true l is none = none
    first false true l is none = none
    first w false l is none = absurd (false≢true is)

kept_whole : (p : ChoiceKey → Bool) (cs : List ChoiceKey) → AllByRecursion (λ c. p c ≡ false) cs → filter (λ c. not (p c)) cs ≡ cs
kept_whole p [] each = refl
kept_whole p (c ∷ cs) each = rw each.0 (ap (λ l. c ∷ l) (kept_whole p cs each.1))

pub keeps_all : (cs : List ChoiceKey) → IsAntichain cs → without_larger nat_eq cs ≡ cs
keeps_all cs anti = kept_whole (is_larger nat_eq cs) cs (none_larger cs anti)

all_new : (kept cs : List ChoiceKey) → AllByRecursion (λ c. is_kept is_repeat kept c ≡ false) cs → IsAntichain cs
    → with_new is_repeat kept cs ≡ kept ++ cs
all_new kept [] new anti = sym (append-nil kept)
all_new kept (c ∷ cs) new anti =
    rw new.0 (all_new (kept ++ c ∷ []) cs later anti.1 ∙ append_assoc kept (c ∷ []) cs)
  where
    still : (d : ChoiceKey) → AreApart c d → is_kept is_repeat kept d ≡ false → is_kept is_repeat (kept ++ c ∷ []) d ≡ false
    still d apart none = list_any-append (λ k. is_repeat k d) kept (c ∷ []) ∙ (λ i. none i || (apart.differ i || false))

    later : AllByRecursion (λ d. is_kept is_repeat (kept ++ c ∷ []) d ≡ false) cs
    later = each_both (AreApart c) (λ d. is_kept is_repeat kept d ≡ false) (λ d. is_kept is_repeat (kept ++ c ∷ []) d ≡ false) still cs
        anti.0 new.1

none_kept : (cs : List ChoiceKey) → AllByRecursion (λ c. is_kept is_repeat [] c ≡ false) cs
none_kept [] = tt
none_kept (c ∷ cs) = (refl, none_kept cs)

pub antichain_is_reduced : (cs : List ChoiceKey) → IsAntichain cs → reduced nat_eq cs ≡ cs
antichain_is_reduced cs anti =
    ap (without_larger nat_eq) (all_new [] cs (none_kept cs) anti) ∙ keeps_all cs anti

-- ---- the test of antichains

told_apart : (c d : ChoiceKey) → are_apart c d ≡ true → AreApart c d
told_apart c d h =
    let parts = and_parts (not (is_within nat_eq c d)) (not (is_within nat_eq d c) && not (same_choice nat_eq c d)) h in
    let more = and_parts (not (is_within nat_eq d c)) (not (same_choice nat_eq c d)) parts.1 in
    record {
      differ = turned d c (is_false (same_choice nat_eq c d) more.1);
      first = is_false (is_within nat_eq c d) parts.0;
      second = is_false (is_within nat_eq d c) more.0;
    }

all_told : (c : ChoiceKey) (cs : List ChoiceKey) → list_all (are_apart c) cs ≡ true → AllByRecursion (AreApart c) cs
all_told c [] h = tt
all_told c (d ∷ cs) h =
    let parts = and_parts (are_apart c d) (list_all (are_apart c) cs) h in (told_apart c d parts.0, all_told c cs parts.1)

told_antichain : (cs : List ChoiceKey) → is_antichain cs ≡ true → IsAntichain cs
told_antichain [] h = tt
told_antichain (c ∷ cs) h =
    let parts = and_parts (list_all (are_apart c) cs) (is_antichain cs) h in (all_told c cs parts.0, told_antichain cs parts.1)

pub told_reduced : (cs : List ChoiceKey) → is_antichain cs ≡ true → cs ≡ reduced nat_eq cs
told_reduced cs h = sym (antichain_is_reduced cs (told_antichain cs h))

-- ---- a reduced list is an antichain

abbrev IsDistinct : List ChoiceKey → Type 0
IsDistinct [] = ⊤
IsDistinct (c ∷ cs) = AllByRecursion (λ d. same_choice nat_eq d c ≡ false) cs × IsDistinct cs

distinct_push : (kept : List ChoiceKey) (x : ChoiceKey) → IsDistinct kept → is_kept is_repeat kept x ≡ false → IsDistinct (kept ++ x ∷ [])
distinct_push [] x distinct new = (tt, tt)
distinct_push (k ∷ kept) x distinct new =
    let parts = neither (same_choice nat_eq x k) (is_kept is_repeat kept x) new in
    (each_joined (λ d. same_choice nat_eq d k ≡ false) kept (x ∷ []) distinct.0 (parts.0, tt), distinct_push kept x distinct.1 parts.1)

distinct_more : (kept cs : List ChoiceKey) → IsDistinct kept → IsDistinct (with_new is_repeat kept cs)
distinct_more kept [] distinct = distinct
distinct_more kept (c ∷ cs) distinct = by (λ ks d. distinct_more ks cs d) (is_kept is_repeat kept c) refl
  where
    by : ((ks : List ChoiceKey) → IsDistinct ks → IsDistinct (with_new is_repeat ks cs)) → (b : Bool) → is_kept is_repeat kept c ≡ b
        → IsDistinct (with_new is_repeat (if b then kept else kept ++ c ∷ []) cs)
    by more true is = more kept distinct
    by more false is = more (kept ++ c ∷ []) (distinct_push kept c distinct is)

module _ (whole : List ChoiceKey) where
  -- where a choice is not larger than one of the whole list, this one does not lie within it
  abbrev IsSmall : ChoiceKey → Type 0
  IsSmall c = (d : ChoiceKey) → is_larger nat_eq whole d ≡ false → (is_within nat_eq c d && not (same_choice nat_eq c d)) ≡ false

  small_members : (cs : List ChoiceKey) → ((d : ChoiceKey) → is_larger nat_eq whole d ≡ false → is_larger nat_eq cs d ≡ false)
      → AllByRecursion IsSmall cs
  small_members [] within = tt
  small_members (c ∷ cs) within = (
    λ d none. (neither (is_within nat_eq c d && not (same_choice nat_eq c d)) (is_larger nat_eq cs d) (within d none)).0,
    small_members cs (λ d none. (neither (is_within nat_eq c d && not (same_choice nat_eq c d)) (is_larger nat_eq cs d) (within d none)).1),
  )

  not_within : (c d : ChoiceKey) → same_choice nat_eq c d ≡ false → (is_within nat_eq c d && not (same_choice nat_eq c d)) ≡ false
      → is_within nat_eq c d ≡ false
  not_within c d differ none = by (is_within nat_eq c d) (same_choice nat_eq c d) differ none
    where
      by : (w s : Bool) → s ≡ false → (w && not s) ≡ false → w ≡ false
      by false s differ none = refl
      by true false differ none = none
      by true true differ none = absurd (false≢true (sym differ))

  apart_of : (c : ChoiceKey) → IsSmall c → is_larger nat_eq whole c ≡ false → (d : ChoiceKey) → same_choice nat_eq d c ≡ false
      → IsSmall d × (not (is_larger nat_eq whole d) ≡ true) → AreApart c d
  apart_of c small none d differ other = record {
    differ = differ;
    first = not_within c d (turned c d differ) (small d (is_false (is_larger nat_eq whole d) other.1));
    second = not_within d c differ (other.0 c none);
  }

  abbrev kept_of : List ChoiceKey → List ChoiceKey
  kept_of cs = filter (λ c. not (is_larger nat_eq whole c)) cs

  abbrev IsKeptSmall : ChoiceKey → Type 0
  IsKeptSmall d = IsSmall d × (not (is_larger nat_eq whole d) ≡ true)

  kept_members : (cs : List ChoiceKey) → AllByRecursion IsSmall cs → AllByRecursion IsKeptSmall (kept_of cs)
  kept_members [] small = tt
  kept_members (c ∷ cs) small = by (not (is_larger nat_eq whole c)) refl (kept_members cs small.1)
    where
      by : (b : Bool) → not (is_larger nat_eq whole c) ≡ b → AllByRecursion IsKeptSmall (kept_of cs)
          → AllByRecursion IsKeptSmall (cond b (c ∷ kept_of cs) (kept_of cs))
      by true is rest = ((small.0, is), rest)
      by false is rest = rest

  kept_antichain : (cs : List ChoiceKey) → IsDistinct cs → AllByRecursion IsSmall cs → IsAntichain (kept_of cs)
  kept_antichain [] distinct small = tt
  kept_antichain (c ∷ cs) distinct small = by (not (is_larger nat_eq whole c)) refl (kept_antichain cs distinct.1 small.1)
    where
      by : (b : Bool) → not (is_larger nat_eq whole c) ≡ b → IsAntichain (kept_of cs) → IsAntichain (cond b (c ∷ kept_of cs) (kept_of cs))
      by false is rest = rest
      by true is rest = (
        each_both (λ d. same_choice nat_eq d c ≡ false) IsKeptSmall (AreApart c)
            (apart_of c small.0 (is_false (is_larger nat_eq whole c) is)) (kept_of cs)
            (each_filtered (λ d. same_choice nat_eq d c ≡ false) (λ c. not (is_larger nat_eq whole c)) cs distinct.0)
            (kept_members cs small.1),
        rest,
      )

pub reduced_is_antichain : (cs : List ChoiceKey) → IsAntichain (reduced nat_eq cs)
reduced_is_antichain cs =
    let list = without_repeats nat_eq cs in
    kept_antichain list list (distinct_more [] cs tt) (small_members list list (λ d none. none))
