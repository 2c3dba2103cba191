use Rattle.std.proofs.Common.{◌+◌, sym, subst}
use Rattle.annotation_check.specs.internal.Pairs.{AreMoveListings}
use Rattle.annotation_check.specs.internal.PairsView.{pairs_tree}
use Rattle.annotation_check.specs.internal.Listings.{IsMoveListing}
use Rattle.annotation_check.proofs.ListedMoves.{listing_more}
use Rattle.annotation_check.proofs.growing.Pairs.listings.Goals as goal

pub loop-state-preserved : goal.loop-state-preserved
loop-state-preserved c =
    let p = pairs_tree c.args.self.now in
    let made = c.in_ok-of.field-0 in
    subst (λ ls. AreMoveListings p.moves ls (c.loop-state.state + 1)) (sym c.in_ok-push.ensures.items)
    (listing_more p.moves c.loop-state.listings.items made c.loop-state.state
    (subst (λ ms. IsMoveListing ms made.letters.items made.next.items) (sym c.moves_in.ensures) c.in_ok-of.ensures) c.loop-state.invariant)
