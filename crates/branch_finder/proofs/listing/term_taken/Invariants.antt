use Rattle.std.proofs.Common.{◌≡◌, map, drop}
use Rattle.letter_space.specs.ControlledView.{controlled_tree}
use Rattle.letter_space.specs.Letters.{term_taken}
use Rattle.branch_finder.proofs.listing.term_taken.Given as goal

-- none of the signals gone through is it
abbrev pub invariant-loop-place : goal.invariant-loop-place
invariant-loop-place l =
    term_taken (map controlled_tree (drop l.place l.controlled)) (drop l.place l.picks) l.signal
    ≡ term_taken (map controlled_tree l.controlled) l.picks l.signal
