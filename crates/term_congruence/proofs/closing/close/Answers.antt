use Rattle.term_congruence.specs.internal.ShapeView.{shape_trees}
use Rattle.term_congruence.proofs.JoinLemmas.{join_stays, stays_on, still_classes, apart_below, ordered, lowered}
use Rattle.term_congruence.proofs.closing.close.Goals as goal

pub loop-apart-smaller : goal.loop-apart-smaller
loop-apart-smaller c =
    let apart = rw c.in-Some.is at c.in_ok-apart.ensures.some in
    lowered (shape_trees c.args.shapes.now) _ _ _ _ _ _ c.loop-apart.invariant.are apart c.max.ensures c.min-kept.ensures c.join.ensures

pub loop-apart-preserved : goal.loop-apart-preserved
loop-apart-preserved c =
    record {
      are = still_classes _ _ _ c.join.ensures.long c.loop-apart.invariant.are;
      joined = stays_on _ _ _ c.loop-apart.invariant.joined (join_stays _ _ _ _ c.join.ensures);
      below = λ R allowed start.
          apart_below (shape_trees c.args.shapes.now) _ _ _ _ _ _ c.loop-apart.invariant.are (rw c.in-Some.is at c.in_ok-apart.ensures.some)
          (ordered _ _ _ _ c.max.ensures c.min-kept.ensures) c.join.ensures R allowed (c.loop-apart.invariant.below R allowed start);
    }
