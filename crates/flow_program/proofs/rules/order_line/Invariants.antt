-- The first place among the nodes that are left is the first of all.
use Rattle.std.proofs.Common.{◌≡◌, map, drop}
use Rattle.program_listing.specs.Listing.{node_line}
use Rattle.flow_program.specs.Rules.{first_place, breaks_order}
use Rattle.flow_program.proofs.rules.order_line.Given as goal

abbrev pub invariant-loop-number : goal.invariant-loop-number
invariant-loop-number l =
    first_place breaks_order l.number (map node_line (drop l.number l.nodes)) ≡ first_place breaks_order 0 (map node_line l.nodes)
