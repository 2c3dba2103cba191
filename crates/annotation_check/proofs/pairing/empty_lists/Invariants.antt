use Rattle.std.proofs.Common.{◌≡◌, [], map}
use Rattle.base_library.specs.Numbers.{numbers_from}
use Rattle.annotation_check.specs.Annotations.{edges_from}
use Rattle.annotation_check.specs.EdgeLists.{edge_lists}
use Rattle.annotation_check.proofs.pairing.empty_lists.Given as goal

abbrev pub invariant-loop-state : goal.invariant-loop-state
invariant-loop-state l = edge_lists l.table.items ≡ map (edges_from []) (numbers_from 0 l._state)
