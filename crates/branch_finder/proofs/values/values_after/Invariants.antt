use Rattle.std.proofs.Common.{◌≡◌, suc, map, take}
use Rattle.letter_space.specs.SpaceView.{space_tree}
use Rattle.letter_space.specs.Letters.{term_taken}
use Rattle.letter_space.specs.Vectors.{picks_of}
use Rattle.branch_finder.specs.internal.Values.{value_after, value_in}
use Rattle.branch_finder.proofs.values.values_after.Given as goal

-- those of the cells gone through
abbrev pub invariant-loop-cell : goal.invariant-loop-cell
invariant-loop-cell l =
    l.values.items
    ≡ map (λ s. value_after (value_in l.known.cells.now l.known.values.now l.known.step) (suc l.known.step) s
    (term_taken (space_tree l.space).controlled (picks_of (space_tree l.space).controlled l.vector) s)) (take l.cell-index l.known.cells.now)
