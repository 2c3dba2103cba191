use Rattle.std.proofs.Common.{◌≡◌, map, take}
use Rattle.branch_finder.specs.internal.Values.{leaf_value}
use Rattle.branch_finder.proofs.values.first_values.Given as goal

-- those of the cells gone through
abbrev pub invariant-loop-cell : goal.invariant-loop-cell
invariant-loop-cell l = l.values.items ≡ map (leaf_value 0) (take l.cell-index l.cells)
