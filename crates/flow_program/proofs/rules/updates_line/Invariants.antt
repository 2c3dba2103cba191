-- The first place among the nodes that are left is the first of all.
use Rattle.std.proofs.Common.{◌≡◌, map, drop}
use Rattle.program_listing.specs.Listing.{node_line, name_bytes}
use Rattle.flow_program.specs.Rules.{first_place, breaks_updates}
use Rattle.flow_program.proofs.rules.updates_line.Given as goal

abbrev pub invariant-loop-number : goal.invariant-loop-number
invariant-loop-number l =
    first_place (breaks_updates l.text (map (name_bytes l.text) l.controlled)) l.number (map node_line (drop l.number l.nodes))
    ≡ first_place (breaks_updates l.text (map (name_bytes l.text) l.controlled)) 0 (map node_line l.nodes)
