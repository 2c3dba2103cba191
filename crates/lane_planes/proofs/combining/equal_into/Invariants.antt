use Rattle.std.proofs.Common.{Fits, w64, ◌-◌, ℕ, ◌≤◌, ◌≡◌, length}
use Rattle.lane_planes.specs.Planes.{word_at}
use Rattle.lane_planes.specs.internal.Parts.{IsJoined, agreed}
use Rattle.lane_planes.proofs.combining.equal_into.Given as goal

abbrev pub invariant-loop-out : goal.invariant-loop-out
invariant-loop-out l = (l.at ≤ length l.out) × (length l.out ≡ length l.fn.out) × ((k : ℕ) →
    Fits w64 (word_at l.fn.out k)) × IsJoined agreed 0 l.at l.fn.out l.other l.out

abbrev pub decreases-loop-out : goal.decreases-loop-out
decreases-loop-out l = length l.out - l.at

abbrev pub invariant-loop-at : goal.invariant-loop-at
invariant-loop-at l = (l.at ≤ length l.out) × (length l.out ≡ length l.fn.out) × ((k : ℕ) →
    Fits w64 (word_at l.fn.out k)) × IsJoined agreed 0 l.at l.fn.out l.other l.out

abbrev pub decreases-loop-at : goal.decreases-loop-at
decreases-loop-at l = length l.out - l.at
