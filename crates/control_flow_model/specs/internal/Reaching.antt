-- Internal: only private functions of this crate use these words. The states that are found while those of a controller are reached.
use Rattle.std.specs.Prelude.{◌≡◌, ℕ, ◌<◌, ◌≤◌, List, length, Some, slice_get, nat_eq}
use Rattle.std.specs.List.{IsDistinct}
use Rattle.base_library.specs.Kept.{with_new}
use Rattle.machines.specs.MachineTree.{EntryTree, ControllerTree, controller_entry}
use Rattle.control_flow_model.specs.Flow.{IsReachable}

-- the next states of a state's entries under the valuations below a number
pub record AreNext (c : ControllerTree) (s valuations : ℕ) (next : List ℕ) : Type 0 where
  pub each : (v : ℕ) (e : EntryTree) → v < valuations → controller_entry c s v ≡ Some e → (j : ℕ) × (slice_get next j ≡ Some e.next)
  pub only : (j n : ℕ) → slice_get next j ≡ Some n → (v : ℕ) × (e : EntryTree) × (controller_entry c s v ≡ Some e) × (e.next ≡ n)

-- states with the next ones of a state, each where it did not stand before
pub record AddsNext (c : ControllerTree) (s : ℕ) (old new : List ℕ) : Type 0 where
  pub next : List ℕ
  pub are_next : AreNext c s c.valuations next
  pub all : new ≡ with_new nat_eq old next

-- The states that are found, where so many of them are expanded: each is reachable and stands once, and the next ones of those are
-- found.
pub record AreFound (c : ControllerTree) (expanded : ℕ) (found : List ℕ) : Type 0 where
  pub start : slice_get found 0 ≡ Some 0
  pub once : IsDistinct nat_eq found
  pub reached : (i s : ℕ) → slice_get found i ≡ Some s → IsReachable c s
  pub closed : (i s v : ℕ) (e : EntryTree) → i < expanded → slice_get found i ≡ Some s → controller_entry c s v ≡ Some e →
      (j : ℕ) × (slice_get found j ≡ Some e.next)
  pub within : expanded ≤ length found
