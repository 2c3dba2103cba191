use Rattle.std.proofs.Common.{◌≡◌, filter}
use Rattle.base_library.specs.Numbers.{is_among, numbers_from}
use Rattle.control_flow_model.proofs.reaching.reachable_states.Given as goal

-- those of the states gone through that are found
abbrev pub invariant-loop-state : goal.invariant-loop-state
invariant-loop-state l = l.kept.items ≡ filter (is_among l.found.items) (numbers_from 0 l.state)
