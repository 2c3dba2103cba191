-- The steps do not fall exactly where those do not that are left, from the latest one on.
use Rattle.std.proofs.Common.{◌≡◌, map, drop}
use Rattle.program_listing.specs.Listing.{placed_line}
use Rattle.flow_program.specs.internal.EqualityKeys.{is_pairwise, does_not_fall}
use Rattle.flow_program.proofs.EqualityKeys.{rise_from}
use Rattle.flow_program.proofs.equalities.steps_do_not_fall.Given as goal

abbrev pub invariant-loop-equality : goal.invariant-loop-equality
invariant-loop-equality l =
    rise_from l.latest (map placed_line (drop l.equality-index l.equalities))
    ≡ is_pairwise does_not_fall (map placed_line l.equalities)
