-- The first place among the nodes that are left is the first of all.
use Rattle.std.proofs.Common.{◌≡◌, map, drop}
use Rattle.program_listing.specs.Listing.{node_line}
use Rattle.flow_program.specs.Rules.{first_place, goes_nowhere}
use Rattle.flow_program.proofs.rules.go_line.Given as goal

abbrev pub invariant-loop-number : goal.invariant-loop-number
invariant-loop-number l =
    first_place (goes_nowhere l.states) l.number (map node_line (drop l.number l.nodes))
    ≡ first_place (goes_nowhere l.states) 0 (map node_line l.nodes)
