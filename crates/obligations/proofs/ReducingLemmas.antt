-- Lists of choices in memory against the lists of their keys.
use Rattle.std.proofs.Common.{◌≡◌, ◌∙◌, ℕ, suc, ◌+◌, Bool, true, false, not, cond, ◌||◌, List, [], ◌∷◌, ◌++◌, length, take, get_or}
use Rattle.std.proofs.Common.{refl, sym, ap, arith, nat_eq, if◌then◌else◌}
use Rattle.std.specs.List.{list_any}
use Rattle.std.proofs.lemmas.List.{append-nil, length-append, length-map, map_push}
use Rattle.base_library.specs.Kept.{with_new}
use Rattle.obligations.specs.declared.numbered.NumberedChoice.{NumberedChoice}
use Rattle.obligations.specs.Choices.{same_choice, without_repeats}
use Rattle.obligations.specs.Numbers.{ChoiceKey, choice_key, choice_keys}
use Rattle.obligations.specs.internal.Rounds.{flagged_members}

-- one more choice, unless it is there
abbrev pub with_choice : List ChoiceKey → ChoiceKey → List ChoiceKey
with_choice kept c = if list_any (same_choice nat_eq c) kept then kept else kept ++ c ∷ []

new_push : (kept cs : List ChoiceKey) (c : ChoiceKey)
    → with_new (λ k d. same_choice nat_eq d k) kept (cs ++ c ∷ []) ≡ with_choice (with_new (λ k d. same_choice nat_eq d k) kept cs) c
new_push kept [] c = refl
new_push kept (d ∷ cs) c = new_push (with_choice kept d) cs c

any_keys : (c : NumberedChoice) (cs : List NumberedChoice)
    → list_any (λ d. same_choice nat_eq (choice_key c) (choice_key d)) cs ≡ list_any (same_choice nat_eq (choice_key c)) (choice_keys cs)
any_keys c [] = refl
any_keys c (d ∷ cs) = ap (λ b. same_choice nat_eq (choice_key c) (choice_key d) || b) (any_keys c cs)

-- the set after an insertion
with_keys : (c : NumberedChoice) (cs : List NumberedChoice)
    → choice_keys (if list_any (λ d. same_choice nat_eq (choice_key c) (choice_key d)) cs then cs else cs ++ c ∷ [])
    ≡ with_choice (choice_keys cs) (choice_key c)
with_keys c cs = by (list_any (λ d. same_choice nat_eq (choice_key c) (choice_key d)) cs)
    ∙ ap (λ b. cond b (choice_keys cs) (choice_keys cs ++ choice_key c ∷ [])) (any_keys c cs)
  where
    by : (b : Bool) → choice_keys (cond b cs (cs ++ c ∷ [])) ≡ cond b (choice_keys cs) (choice_keys cs ++ choice_key c ∷ [])
    by true = refl
    by false = map_push choice_key cs c

pub insert_step : (gone kept new : List NumberedChoice) (c : NumberedChoice)
    → choice_keys kept ≡ without_repeats nat_eq (choice_keys gone)
    → new ≡ (if list_any (λ d. same_choice nat_eq (choice_key c) (choice_key d)) kept then kept else kept ++ c ∷ [])
    → choice_keys new ≡ without_repeats nat_eq (choice_keys (gone ++ c ∷ []))
insert_step gone kept new c before is =
    ap choice_keys is ∙ with_keys c kept ∙ ap (λ ks. with_choice ks (choice_key c)) before
    ∙ sym (new_push [] (choice_keys gone) (choice_key c)) ∙ ap (without_repeats nat_eq) (sym (map_push choice_key gone c))

-- a choice that is put behind those kept unless it is there
pub push_step : (gone kept new : List NumberedChoice) (c : NumberedChoice)
    → choice_keys kept ≡ without_repeats nat_eq (choice_keys gone)
    → choice_keys new ≡ choice_keys kept ++ cond (not (list_any (same_choice nat_eq (choice_key c)) (choice_keys kept))) (choice_key c ∷ []) []
    → choice_keys new ≡ without_repeats nat_eq (choice_keys (gone ++ c ∷ []))
push_step gone kept new c before is =
    is ∙ unless (choice_keys kept) (list_any (same_choice nat_eq (choice_key c)) (choice_keys kept))
    ∙ ap (λ ks. with_choice ks (choice_key c)) before
    ∙ sym (new_push [] (choice_keys gone) (choice_key c)) ∙ ap (without_repeats nat_eq) (sym (map_push choice_key gone c))
  where
    unless : (ks : List ChoiceKey) (b : Bool) → ks ++ cond (not b) (choice_key c ∷ []) [] ≡ (if b then ks else ks ++ choice_key c ∷ [])
    unless ks true = append-nil ks
    unless ks false = refl

-- one more choice with its flag
flagged_more : (cs : List ChoiceKey) (flags : List Bool) (c : ChoiceKey)
    → flagged_members (cs ++ c ∷ []) (take (suc (length cs)) flags)
    ≡ flagged_members cs (take (length cs) flags) ++ cond (get_or flags (length cs) false) (c ∷ []) []
flagged_more [] [] c = refl
flagged_more [] (flag ∷ flags) c = refl
flagged_more (d ∷ cs) [] c = refl
flagged_more (d ∷ cs) (flag ∷ flags) c = by (flagged_more cs flags c) flag
  where
    by : flagged_members (cs ++ c ∷ []) (take (suc (length cs)) flags)
        ≡ flagged_members cs (take (length cs) flags) ++ cond (get_or flags (length cs) false) (c ∷ []) [] → (b : Bool)
        → cond b (d ∷ flagged_members (cs ++ c ∷ []) (take (suc (length cs)) flags)) (flagged_members (cs ++ c ∷ []) (take (suc (length cs)) flags))
        ≡ cond b (d ∷ flagged_members cs (take (length cs) flags)) (flagged_members cs (take (length cs) flags))
        ++ cond (get_or flags (length cs) false) (c ∷ []) []
    by rest true = ap (λ l. d ∷ l) rest
    by rest false = rest

pub flagged_push : (gone kept new : List NumberedChoice) (flags : List Bool) (place : ℕ) (c : NumberedChoice) → place ≡ length gone
    → choice_keys kept ≡ flagged_members (choice_keys gone) (take place flags)
    → choice_keys new ≡ choice_keys kept ++ cond (get_or flags place false) (choice_key c ∷ []) []
    → choice_keys new ≡ flagged_members (choice_keys (gone ++ c ∷ [])) (take (place + 1) flags)
flagged_push gone kept new flags place c at before is =
    let many : place ≡ length (choice_keys gone) = at ∙ sym (length-map gone choice_key) in
    let next : suc (length (choice_keys gone)) ≡ place + 1 = omega (arith, many) in
    is ∙ ap (λ l. l ++ cond (get_or flags place false) (choice_key c ∷ []) []) before
    ∙ ap (λ n. flagged_members (choice_keys gone) (take n flags) ++ cond (get_or flags n false) (choice_key c ∷ []) []) many
    ∙ sym (flagged_more (choice_keys gone) flags (choice_key c))
    ∙ ap (λ n. flagged_members (choice_keys gone ++ choice_key c ∷ []) (take n flags)) next
    ∙ ap (λ l. flagged_members l (take (place + 1) flags)) (sym (map_push choice_key gone c))

pub one_longer : (gone : List NumberedChoice) (place : ℕ) (c : NumberedChoice) → place ≡ length gone → place + 1 ≡ length (gone ++ c ∷ [])
one_longer gone place c at = ap (λ n. n + 1) at ∙ sym (length-append gone (c ∷ []))
