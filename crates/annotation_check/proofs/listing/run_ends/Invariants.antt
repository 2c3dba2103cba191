use Rattle.std.proofs.Common.{◌≡◌, ℕ, ◌<◌, ◌≤◌, length, get_or}
use Rattle.annotation_check.specs.internal.Listings.{IsRunEnd}
use Rattle.annotation_check.proofs.listing.run_ends.Given as goal

-- the ends from a place on are there
abbrev pub invariant-loop-at : goal.invariant-loop-at
invariant-loop-at l =
    (l.at ≤ length l.next) × (length l.ends.items ≡ length l.next)
    × ((i : ℕ) → l.at ≤ i → i < length l.next → IsRunEnd l.next i (get_or l.ends.items i 0))

abbrev pub decreases-loop-at : goal.decreases-loop-at
decreases-loop-at l = l.at
