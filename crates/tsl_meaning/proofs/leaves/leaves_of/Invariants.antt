use Rattle.std.proofs.Common.{◌≡◌, map, take}
use Rattle.interp_core.specs.LeafValue.{leaf_value}
use Rattle.tsl_meaning.specs.RunTree.{position_tree, run_tree}
use Rattle.tsl_meaning.specs.RunLasso.{value_at}
use Rattle.tsl_meaning.proofs.leaves.leaves_of.Given as goal

-- the values at the positions so far
abbrev pub invariant-loop-position : goal.invariant-loop-position
invariant-loop-position g l =
    map (leaf_value g.J.Algebra.seen) l.leaves.items
    ≡ map (λ p. value_at (run_tree g.J.Algebra.seen l.run) (position_tree g.J.Algebra.seen p)) (take l.position-index l.position-items)
