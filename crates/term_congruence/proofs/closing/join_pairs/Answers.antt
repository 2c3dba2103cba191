use Rattle.std.proofs.Common.{length, map, take, sym, refl, subst}
use Rattle.term_congruence.specs.internal.Closing.{ArePairsJoined}
use Rattle.term_congruence.specs.internal.PairView.{pair_tree}
use Rattle.term_congruence.proofs.JoinLemmas.{pair_below, pairs_taken, next_pair, one_pair, left_inside, right_inside}
use Rattle.term_congruence.proofs.closing.join_pairs.Goals as goal

pub bounds-classes-pair : goal.bounds-classes-pair
bounds-classes-pair c =
    left_inside c.args.classes.now c.loop-pair.classes c.args.pairs.now c.loop-pair.pair-index _ c.loop-pair-test.true
    c.loop-pair.invariant.stay.0 c.requires

pub bounds-classes-pair-in-loop-pair : goal.bounds-classes-pair-in-loop-pair
bounds-classes-pair-in-loop-pair c =
    right_inside c.args.classes.now c.loop-pair.classes c.args.pairs.now c.loop-pair.pair-index _ c.loop-pair-test.true
    c.loop-pair.invariant.stay.0 c.requires

pub loop-pair-preserved : goal.loop-pair-preserved
loop-pair-preserved c =
    subst (λ ps. ArePairsJoined ps c.args.classes.now c.join.new.classes)
    (sym (next_pair c.args.pairs.now c.loop-pair.pair-index _ c.loop-pair-test.true))
    (one_pair (map pair_tree (take c.loop-pair.pair-index c.args.pairs.now)) _ c.args.classes.now c.loop-pair.classes c.join.new.classes _ _
    c.loop-pair.invariant (pairs_taken (length c.args.classes.now) c.args.pairs.now c.loop-pair.pair-index c.requires)
    (pair_below (length c.args.classes.now) c.args.pairs.now c.loop-pair.pair-index _ c.loop-pair-test.true c.requires) refl refl c.join.ensures)
