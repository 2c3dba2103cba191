use Rattle.std.proofs.Common.{◌≡◌, Some, map, take}
use Rattle.interp_core.specs.LeafValue.{leaf_value}
use Rattle.tsl_meaning.proofs.columns.column_of.Given as goal

-- the values at the positions so far
abbrev pub invariant-loop-row : goal.invariant-loop-row
invariant-loop-row g l =
    map (λ v. Some (g.J.Algebra.seen v)) l.values.items
    ≡ map (λ r. leaf_value g.J.Algebra.seen r l.signal) (take l.row-index l.leaves)
