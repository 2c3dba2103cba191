use Rattle.std.proofs.Common.{◌≡◌, ℕ, List, nat_eq}
use Rattle.base_library.specs.Kept.{with_new}
use Rattle.machines.specs.MachineView.{controller_tree}
use Rattle.control_flow_model.specs.internal.Reaching.{AreNext}
use Rattle.control_flow_model.proofs.reaching.add_next.Given as goal

-- the next states under the valuations gone through are added
abbrev pub invariant-loop-valuation : goal.invariant-loop-valuation
invariant-loop-valuation l =
    (next : List ℕ) × AreNext (controller_tree l.controller) l.state l.valuation next
    × (l.found.items ≡ with_new nat_eq l.fn.found.items next)
