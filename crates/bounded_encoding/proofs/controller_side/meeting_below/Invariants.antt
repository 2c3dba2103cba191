use Rattle.std.proofs.Common.{◌≡◌, ◌++◌, filter, map}
use Rattle.ltl_formula.specs.Cubes.{cube_matches}
use Rattle.bounded_encoding.specs.ClauseLists.{between, below}
use Rattle.bounded_encoding.proofs.controller_side.meeting_below.Given as goal

abbrev pub invariant-loop-v : goal.invariant-loop-v
invariant-loop-v l = l.met.items ++ map (λ n. n) (filter (cube_matches l.care l.want) (between l.v l.valuations))
    ≡ map (λ n. n) (filter (cube_matches l.care l.want) (below l.valuations))
