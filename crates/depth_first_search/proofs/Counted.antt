-- Distinct numbers that are all numbers below a limit.
use Rattle.std.proofs.Common.{◌≡◌, ◌∙◌, ℕ, ◌<◌, true, List, length, Some, nat_eq, ap, arith}
use Rattle.std.proofs.lemmas.Bool.{eqb-true, false_from_ne_true}
use Rattle.std.specs.List.{IsDistinct as AreApart}
use Rattle.std.proofs.lemmas.Map.Keys.{any_passes_from_place, IsDistinct-from_apart}
use Rattle.std.proofs.lemmas.Map.Steps.{length-le_from_distinct_below, le-length_from_below}
use Rattle.std.proofs.lemmas.Option.{slice_get-get_or}
use Rattle.base_library.specs.Numbers.{is_among, IsDistinct}
use Rattle.base_library.proofs.Booleans.{eqb_self}
use Rattle.base_library.proofs.Numbers.{among_at, among_place}
use Rattle.base_library.proofs.Passes.{list_any_place}

apart : (ns : List ℕ) → IsDistinct ns → AreApart nat_eq ns
apart ns once = IsDistinct-from_apart nat_eq ns (λ i j d less within. false_from_ne_true _ (λ same.
    let here = slice_get-get_or ns i d (omega (arith, less, within)) ∙ ap Some (eqb-true _ _ same) in
    omega (arith, less, once i j _ here (slice_get-get_or ns j d within))))

pub all_counted : (ns : List ℕ) (limit : ℕ) → IsDistinct ns → ((n : ℕ) → n < limit → is_among ns n ≡ true) →
    ((n : ℕ) → is_among ns n ≡ true → n < limit) → length ns ≡ limit
all_counted ns limit once all within =
    let few = length-le_from_distinct_below ns limit (apart ns once) (λ q among.
    let there = list_any_place (nat_eq q) ns among in
    omega (arith, eqb-true q there.1 there.3, within there.1 (among_at ns there.0 there.1 there.2))) in
    let many = le-length_from_below ns limit (λ q less.
    let place = among_place ns q (all q less) in
    any_passes_from_place (nat_eq q) ns place.0 q place.1 (eqb_self q)) in
    omega (arith, few, many)
