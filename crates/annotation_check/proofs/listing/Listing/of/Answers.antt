use Rattle.std.proofs.Common.{sym, subst}
use Rattle.std.specs.List.Sorted.{IsPermutation}
use Rattle.annotation_check.proofs.ListedMoves.{listing_made}
use Rattle.annotation_check.proofs.listing.Listing.of.Goals as goal

pub returns : goal.returns
returns c =
    let same = subst (IsPermutation c.in_ok-sorted.sorted.items) (sym c.deref.ensures.value) c.sort_unstable_by_key.ensures.permutation in
    listing_made c.args.moves.now c.deref.result.now
    (subst (λ ms. IsPermutation ms c.deref.result.now) (c.in_ok-sorted.ensures.items_if_clones_equal (λ x y e. e)) same)
    c.in_order.result c.in_order.ensures.letters c.in_order.ensures.next
