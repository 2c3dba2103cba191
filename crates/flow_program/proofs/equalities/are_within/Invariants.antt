-- All are within the length exactly where those are that are left.
use Rattle.std.proofs.Common.{◌≡◌, map, drop}
use Rattle.std.specs.List.{list_all}
use Rattle.program_listing.specs.Listing.{placed_line}
use Rattle.flow_program.specs.Rules.{is_equality_within}
use Rattle.flow_program.proofs.equalities.are_within.Given as goal

abbrev pub invariant-loop-equality : goal.invariant-loop-equality
invariant-loop-equality l =
    list_all (is_equality_within l.text l.length) (map placed_line (drop l.equality-index l.equalities))
    ≡ list_all (is_equality_within l.text l.length) (map placed_line l.equalities)
