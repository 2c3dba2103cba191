-- Internal: only private functions of this crate use these words.
-- The arguments of predicate terms, one after the other, and their labels.
use Rattle.std.specs.Prelude.{◌≡◌, ℕ, suc, List, length, map, take, drop, flat_map, Some, slice_get}
use Rattle.base_library.specs.Numbers.{numbers_from}
use Rattle.tsl_terms.specs.TermTree.{TermTree, ProbeTree, terms_in, count_of_terms}

-- the arguments of probes, one after the other
abbrev pub arguments_of : List ProbeTree → List TermTree
arguments_of probes = flat_map (λ p. terms_in p.arguments) probes

-- where the arguments of the probe at a place begin
abbrev pub start_of : List ProbeTree → ℕ → ℕ
start_of probes place = length (arguments_of (take place probes))

-- for each probe where its arguments begin, and then where the last one's end
abbrev pub AreStarts : List ProbeTree → List ℕ → Type 0
AreStarts probes starts = starts ≡ map (start_of probes) (numbers_from 0 (suc (length probes)))

-- these are the labels of the arguments of the probe at a place, in the row of a step
abbrev pub ArePlaceLabels : List ProbeTree → List (List ℕ) → ℕ → ℕ → List ℕ → Type 0
ArePlaceLabels probes rows step place labels = (probe : ProbeTree) (row : List ℕ) → slice_get probes place ≡ Some probe
    → slice_get rows step ≡ Some row → labels ≡ take (count_of_terms probe.arguments) (drop (start_of probes place) row)
