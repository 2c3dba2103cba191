use Rattle.std.proofs.Common.{arith}
use Rattle.std.proofs.lemmas.Bool.{MatchBool-at_true}
use Rattle.std.proofs.lemmas.Option.{slice_get-get_or}
use Rattle.annotation_check.specs.internal.PairsView.{pairs_tree}
use Rattle.annotation_check.proofs.StepsFollowed.{step_more, all_met}
use Rattle.annotation_check.proofs.growing.Pairs.follow.Goals as goal

pub loop-step-preserved : goal.loop-step-preserved
loop-step-preserved c =
    step_more (pairs_tree c.args.self.now) c.args.rise.number c.args.growth.now.numbers.items c.args.growth.now.risen.items
    c.args.steps.now c.loop-step.step-index _ c.loop-step.growth.numbers.items c.loop-step.growth.risen.items
    c.follow_step.new.growth.numbers.items c.follow_step.new.growth.risen.items
    (slice_get-get_or c.args.steps.now c.loop-step.step-index _ (omega arith)) c.loop-step.invariant
    (MatchBool-at_true _ _ c.if-not-branch.false c.in_ok-follow_step.ensures)

pub returns : goal.returns
returns c = (
  c.loop-step.invariant.0,
  all_met (pairs_tree c.args.self.now) c.args.rise.number c.args.rise.machine_state c.args.rise.automaton_state
      c.loop-step.growth.numbers.items c.args.steps.now c.loop-step.step-index c.loop-step-test.false c.requires.are_steps
      c.loop-step.invariant.1,
)
