-- Where the arguments of predicate terms stand among all, and their labels in a row.
use Rattle.std.proofs.Common.{◌≡◌, ◌∙◌, ℕ, zero, suc, ◌+◌, ◌-◌, ◌<◌, ◌≤◌, List, [], ◌∷◌, ◌++◌, length, take, drop, map, get_or}
use Rattle.std.proofs.Common.{Some, slice_get, refl, sym, ap, arith, length-append, add-one}
use Rattle.std.proofs.lemmas.Grind.{flat_map-append}
use Rattle.std.proofs.lemmas.List.{length-map, map-append, length-take-le, length-drop}
use Rattle.std.proofs.lemmas.Option.{none-some, same_Some, slice_get-get_or}
use Rattle.base_library.specs.Numbers.{numbers_from}
use Rattle.base_library.proofs.Numbers.{numbers_more, numbers_at, length-numbers}
use Rattle.base_library.proofs.Places.{slice_get_some, slice_get_one, slice_get_grown, slice_get-append, take_next}
use Rattle.letter_space.proofs.Places.{slice_get_image}
use Rattle.tsl_terms.specs.TermTree.{TermTree, TermTrees, no_terms, more_terms, ProbeTree, terms_in, count_of_terms}
use Rattle.branch_finder.specs.internal.Arguments.{arguments_of, start_of, AreStarts, ArePlaceLabels}

-- ---- where arguments stand

pub length_in : (ts : TermTrees) → length (terms_in ts) ≡ count_of_terms ts
length_in no_terms = refl
length_in (more_terms t ts) = let rest = length_in ts in omega (arith, rest)

-- the arguments of a probe stand from its start on
pub argument_at : (probes : List ProbeTree) (place : ℕ) (p : ProbeTree) → slice_get probes place ≡ Some p → (k : ℕ) (t : TermTree) →
    slice_get (terms_in p.arguments) k ≡ Some t → slice_get (arguments_of probes) (start_of probes place + k) ≡ Some t
argument_at [] place p at k t there = absurd (none-some p at)
argument_at (q ∷ probes) zero p at k t there =
    let same : q ≡ p = same_Some q p at in
    let here : k ≡ 0 + k = omega arith in
    sym (ap (slice_get (arguments_of (q ∷ probes))) here)
    ∙ slice_get_grown (terms_in q.arguments) (arguments_of probes) k t (ap (λ r. slice_get (terms_in r.arguments) k) same ∙ there)
argument_at (q ∷ probes) (suc place) p at k t there =
    let first = terms_in q.arguments in
    let sized : start_of (q ∷ probes) (suc place) ≡ length first + start_of probes place = length-append first
    (arguments_of (take place probes)) in
    slice_get-append first (arguments_of probes) (start_of probes place + k) (start_of (q ∷ probes) (suc place) + k) (omega (arith, sized))
    ∙ argument_at probes place p at k t there

-- the next start is behind the probe's arguments
pub start_after : (probes : List ProbeTree) (place : ℕ) (p : ProbeTree) → slice_get probes place ≡ Some p →
    start_of probes (suc place) ≡ start_of probes place + count_of_terms p.arguments
start_after [] place p at = absurd (none-some p at)
start_after (q ∷ probes) zero p at =
    let same : q ≡ p = same_Some q p at in
    let sized : start_of (q ∷ probes) 1 ≡ length (terms_in q.arguments) + 0 = length-append (terms_in q.arguments) [] in
    omega (arith, sized, length_in q.arguments, ap (λ r. count_of_terms r.arguments) same)
start_after (q ∷ probes) (suc place) p at =
    let first = terms_in q.arguments in
    let sized : start_of (q ∷ probes) (suc place) ≡ length first + start_of probes place = length-append first
    (arguments_of (take place probes)) in
    let sized_too : start_of (q ∷ probes) (suc (suc place)) ≡ length first + start_of probes (suc place)
    = length-append first (arguments_of (take (suc place) probes)) in
    let rest = start_after probes place p at in
    omega (arith, sized, sized_too, rest)

pub start_within : (probes : List ProbeTree) (place : ℕ) → start_of probes place ≤ length (arguments_of probes)
start_within probes zero = omega arith
start_within [] (suc place) = omega arith
start_within (q ∷ probes) (suc place) =
    let first = terms_in q.arguments in
    let sized : start_of (q ∷ probes) (suc place) ≡ length first + start_of probes place = length-append first
    (arguments_of (take place probes)) in
    let whole : length (arguments_of (q ∷ probes)) ≡ length first + length (arguments_of probes) = length-append first
    (arguments_of probes) in
    let rest = start_within probes place in
    omega (arith, sized, whole, rest)

-- ---- loops that gather them

none_behind : {X : Type 0} (xs : List X) → xs ++ [] ≡ xs
none_behind [] = refl
none_behind (x ∷ xs) = ap (λ ys. x ∷ ys) (none_behind xs)

pub arguments_more : (probes : List ProbeTree) (i : ℕ) (p : ProbeTree) → slice_get probes i ≡ Some p →
    arguments_of (take (i + 1) probes) ≡ arguments_of (take i probes) ++ terms_in p.arguments
arguments_more probes i p at =
    ap (λ n. arguments_of (take n probes)) (add-one i) ∙ ap arguments_of (take_next probes i p at)
    ∙ flat_map-append (λ (q : ProbeTree). terms_in q.arguments) (take i probes) (p ∷ [])
    ∙ ap (λ (ts : List TermTree). arguments_of (take i probes) ++ ts) (none_behind (terms_in p.arguments))

pub starts_more : (probes : List ProbeTree) (i n : ℕ) → n ≡ suc i →
    map (start_of probes) (numbers_from 0 n) ≡ map (start_of probes) (numbers_from 0 i) ++ start_of probes i ∷ []
starts_more probes i n next =
    ap (λ k. map (start_of probes) (numbers_from 0 k)) next ∙ ap (map (start_of probes)) (numbers_more 0 i i (omega arith))
    ∙ map-append (start_of probes) (numbers_from 0 i) (i ∷ [])

-- ---- labels of one probe's arguments

module _ (probes : List ProbeTree) (starts : List ℕ) (are : AreStarts probes starts) where
  pub starts_counted : length starts ≡ suc (length probes)
  starts_counted =
      ap length are ∙ length-map (numbers_from 0 (suc (length probes))) (start_of probes) ∙ length-numbers 0 (suc (length probes))

  pub start_read : (place : ℕ) → place ≤ length probes → get_or starts place 0 ≡ start_of probes place
  start_read place within =
      slice_get_one starts place (get_or starts place 0) (start_of probes place)
      (slice_get-get_or starts place 0 (omega (arith, within, starts_counted)))
      (ap (λ ss. slice_get ss place) are
      ∙ slice_get_image (start_of probes) (numbers_from 0 (suc (length probes))) place place
      (numbers_at 0 (suc (length probes)) place (omega (arith, within)) ∙ ap Some (omega arith)))

  module _ (place : ℕ) (within : place < length probes) where
    next_read : (p : ProbeTree) → slice_get probes place ≡ Some p →
        get_or starts (place + 1) 0 ≡ get_or starts place 0 + count_of_terms p.arguments
    next_read p at =
        start_read (place + 1) (omega (arith, within)) ∙ ap (start_of probes) (add-one place) ∙ start_after probes place p at
        ∙ ap (λ n. n + count_of_terms p.arguments) (sym (start_read place (omega (arith, within))))

    pub part_in_order : get_or starts place 0 ≤ get_or starts (place + 1) 0
    part_in_order = let p = slice_get_some probes place within in omega (arith, next_read p.0 p.1)

    pub part_within : (row : List ℕ) → length row ≡ length (arguments_of probes) → get_or starts (place + 1) 0 ≤ length row
    part_within row sized =
        omega (arith, start_read (place + 1) (omega (arith, within)), start_within probes (place + 1), sized)

    pub labels_are : (rows : List (List ℕ)) (step : ℕ) (row labels : List ℕ) → slice_get rows step ≡ Some row →
        labels ≡ take (get_or starts (place + 1) 0 - get_or starts place 0) (drop (get_or starts place 0) row) →
        ArePlaceLabels probes rows step place labels
    labels_are rows step row labels at are_part p other is_p at_too =
        let count : get_or starts (place + 1) 0 - get_or starts place 0 ≡ count_of_terms p.arguments
        = omega (arith, next_read p is_p) in
        are_part
        ∙ (λ i. take (count i) (drop (start_read place (omega (arith, within)) i) (slice_get_one rows step row other at at_too i)))

-- a probe has as many labels as arguments
pub labels_counted : (probes : List ProbeTree) (rows : List (List ℕ)) (step place : ℕ) (labels row : List ℕ) (p : ProbeTree) →
    ArePlaceLabels probes rows step place labels → slice_get probes place ≡ Some p → slice_get rows step ≡ Some row →
    length row ≡ length (arguments_of probes) → length labels ≡ count_of_terms p.arguments
labels_counted probes rows step place labels row p are is_p at sized =
    let next = start_after probes place p is_p in
    let within = start_within probes (suc place) in
    let left = length-drop (start_of probes place) row in
    ap length (are p row is_p at)
    ∙ length-take-le (count_of_terms p.arguments) (drop (start_of probes place) row) (omega (arith, next, within, left, sized))
