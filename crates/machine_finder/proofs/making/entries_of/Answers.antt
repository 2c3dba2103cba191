use Rattle.std.proofs.Common.{◌∙◌, sym, subst, arith}
use Rattle.letter_space.specs.Letters.{ArePicks}
use Rattle.letter_space.specs.SpaceView.{space_tree}
use Rattle.letter_space.proofs.VectorPicks.{vectors_pick}
use Rattle.machine_finder.proofs.MadeEntries.{one_more}
use Rattle.machine_finder.proofs.making.entries_of.Goals as goal

pub loop-answer-preserved : goal.loop-answer-preserved
loop-answer-preserved c =
    let controlled = (space_tree c.args.space.now).controlled in
    rw c.in_ok-push.ensures.ok
    (one_more (space_tree c.args.space.now) c.args.states _ _ c.loop-answer.invariant
    (subst (ArePicks controlled) (sym (c.from_vec-choices.ensures ∙ c.in_ok-picks.ensures))
    (vectors_pick controlled _ (omega (arith, c.if-answer-vectors.false, c.requires))))
    (omega (arith, c.if-answer-states.false)))
