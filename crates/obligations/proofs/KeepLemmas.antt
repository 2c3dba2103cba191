-- The steps of the loop that keeps choices of one weight.
use Rattle.std.proofs.Common.{◌≡◌, ◌∙◌, ℕ, zero, suc, ◌<◌, ◌≤◌, Bool, true, false, cond, not, ◌||◌, ◌==◌, List, [], ◌∷◌, ◌++◌, map, filter}
use Rattle.std.proofs.Common.{drop, length, get_or, slice_set, if◌then◌else◌, Bor, refl, sym, ap, arith, append_assoc, eq-eqb}
use Rattle.obligations.specs.declared.numbered.NumberedChoice.{NumberedChoice}
use Rattle.obligations.specs.Numbers.{ChoiceKey, choice_key, choice_keys}
use Rattle.obligations.specs.internal.Rounds.{weight, lent_keys, has_within, is_kept, with_flags, rounds, flags_after}

pub weight_at : (cs : List NumberedChoice) (ws : List ℕ) (i : ℕ) (c : NumberedChoice) → ws ≡ map weight (choice_keys cs) → i < length cs →
    c ≡ get_or cs i c → get_or ws i 0 ≡ weight (choice_key c)
weight_at cs ws i c is within at = rw is (by cs i within at)
  where
    by : (cs : List NumberedChoice) (i : ℕ) → i < length cs → c ≡ get_or cs i c →
        get_or (map weight (choice_keys cs)) i 0 ≡ weight (choice_key c)
    by [] i within at = absurd (omega arith)
    by (d ∷ cs) zero within at = ap (λ e. weight (choice_key e)) (sym at)
    by (d ∷ cs) (suc i) within at = by cs i (omega arith) at

pub flags_step : (test : ChoiceKey → Bool) (i : ℕ) (cs : List NumberedChoice) (flags : List Bool) (c : NumberedChoice) (flag : Bool) →
    i < length cs → length flags ≡ length cs → c ≡ get_or cs i c
    → flag ≡ (get_or flags i false || test (choice_key c))
    → with_flags test (suc i) (choice_keys cs) (slice_set flags i flag) ≡ with_flags test i (choice_keys cs) flags
flags_step test i [] flags c flag within long at is = absurd (omega arith)
flags_step test i (d ∷ cs) [] c flag within long at is = absurd (omega arith)
flags_step test zero (d ∷ cs) (f ∷ flags) c flag within long at is =
    λ k. (is ∙ ap (λ e. f || test (choice_key e)) at) k ∷ from_none cs flags k
  where
    from_none : (cs : List NumberedChoice) (flags : List Bool) → with_flags test zero (choice_keys cs) flags
        ≡ with_flags test zero (choice_keys cs) flags
    from_none cs flags = refl
flags_step test (suc i) (d ∷ cs) (f ∷ flags) c flag within long at is =
    ap (λ rest. f ∷ rest) (flags_step test i cs flags c flag (omega arith) (omega arith) at is)

pub flags_end : (test : ChoiceKey → Bool) (i : ℕ) (xs : List ChoiceKey) (flags : List Bool) → length xs ≤ i →
    with_flags test i xs flags ≡ flags
flags_end test i [] flags h = refl
flags_end test i (x ∷ xs) [] h = refl
flags_end test zero (x ∷ xs) (f ∷ flags) h = absurd (omega arith)
flags_end test (suc i) (x ∷ xs) (f ∷ flags) h = ap (λ rest. f ∷ rest) (flags_end test i xs flags (omega arith))

pub found_step : (test : ChoiceKey → Bool) (cs : List NumberedChoice) (i : ℕ) (c : NumberedChoice) (before after : List ChoiceKey)
    (kept : Bool) → i < length cs → c ≡ get_or cs i c → kept ≡ test (choice_key c)
    → after ≡ (if kept then before ++ choice_key c ∷ [] else before)
    → after ++ filter test (drop (suc i) (choice_keys cs)) ≡ before ++ filter test (drop i (choice_keys cs))
found_step test cs i c before after kept within at is new = rw (new, is) (by cs i within at)
  where
    over : (b : Bool) (rest : List ChoiceKey) → (if b then before ++ choice_key c ∷ [] else before) ++ rest
        ≡ before ++ cond b (choice_key c ∷ rest) rest
    over true rest = append_assoc before (choice_key c ∷ []) rest
    over false rest = refl

    by : (cs : List NumberedChoice) (i : ℕ) → i < length cs → c ≡ get_or cs i c
        → (if test (choice_key c) then before ++ choice_key c ∷ [] else before) ++ filter test (drop (suc i) (choice_keys cs))
        ≡ before ++ filter test (drop i (choice_keys cs))
    by [] i within at = absurd (omega arith)
    by (d ∷ cs) zero within at = over (test (choice_key c)) (filter test (choice_keys cs))
        ∙ ap (λ e. before ++ cond (test (choice_key e)) (choice_key e ∷ filter test (choice_keys cs)) (filter test (choice_keys cs))) at
    by (d ∷ cs) (suc i) within at = by cs i (omega arith) at

pub length-keys : (cs : List NumberedChoice) → length (choice_keys cs) ≡ length cs
length-keys [] = refl
length-keys (c ∷ cs) = ap suc (length-keys cs)

pub kept_by : (lighter : List ChoiceKey) (own round : ℕ) (x : ChoiceKey) (answer : Bool) → own ≡ weight x → own ≡ round →
    answer ≡ has_within lighter x
    → not answer ≡ is_kept lighter round x
kept_by lighter own round x answer is same found =
    let equal : (weight x == round) ≡ true = eq-eqb (weight x) round (sym is ∙ same) in
    rw equal (ap not found)

refs_append : (xs ys : List (Bor NumberedChoice)) → lent_keys (xs ++ ys) ≡ lent_keys xs ++ lent_keys ys
refs_append [] ys = refl
refs_append (x ∷ xs) ys = ap (λ rest. choice_key x.now ∷ rest) (refs_append xs ys)

-- a round adds to the lighter choices those that it found
pub lighter_step : (cs : List NumberedChoice) (w : ℕ) (old seen none found new : List (Bor NumberedChoice)) →
    lent_keys old ≡ rounds (choice_keys cs) w
    → lent_keys seen ≡ rounds (choice_keys cs) w → new ≡ old ++ found → none ≡ []
    → lent_keys found ≡ lent_keys none ++ filter (is_kept (lent_keys seen) w) (choice_keys cs)
    → lent_keys new ≡ rounds (choice_keys cs) (suc w)
lighter_step cs w old seen none found new before same joined nothing kept =
    ap lent_keys joined ∙ refs_append old found
    ∙ (λ i. before i ++ (kept ∙ ap (λ ns. lent_keys ns ++ filter (is_kept (lent_keys seen) w) (choice_keys cs)) nothing) i)
    ∙ ap (λ ks. rounds (choice_keys cs) w ++ filter (is_kept ks w) (choice_keys cs)) same

pub round_step : (cs : List NumberedChoice) (w : ℕ) (seen : List (Bor NumberedChoice)) (start old new : List Bool) →
    lent_keys seen ≡ rounds (choice_keys cs) w
    → old ≡ flags_after (choice_keys cs) w start
    → new ≡ with_flags (is_kept (lent_keys seen) w) 0 (choice_keys cs) old
    → new ≡ flags_after (choice_keys cs) (suc w) start
round_step cs w seen start old new same before kept =
    kept ∙ (λ i. with_flags (is_kept (same i) w) 0 (choice_keys cs) (before i))
