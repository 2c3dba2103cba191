use Rattle.annotation_check.specs.internal.Pairs.{AreMoveListings}
use Rattle.annotation_check.specs.internal.PairsView.{pairs_tree}
use Rattle.annotation_check.proofs.growing.Pairs.listings.Given as goal

abbrev pub invariant-loop-state : goal.invariant-loop-state
invariant-loop-state l = AreMoveListings (pairs_tree l.self).moves l.listings.items l.state
