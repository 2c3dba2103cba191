use Rattle.std.proofs.Common.{[], ◌∷◌, length, ap, arith}
use Rattle.std.proofs.lemmas.List.{length-append}
use Rattle.table_runner.proofs.Stepping.{acts, does_in}
use Rattle.table_runner.proofs.Recorded.{recorded, position_fits, one_more_fits, one_more_step}
use Rattle.table_runner.proofs.recording.first_positions.Goals as goal

pub action_in-requires : goal.action_in-requires
action_in-requires g c = record { acts = acts _ _ _ _ c.requires.can c.loop.counter _ c.loop.invariant.0 }

pub act-requires-clause-does : goal.act-requires-clause-does
act-requires-clause-does g c = does_in _ _ _ _ c.requires.can c.loop.counter _ c.loop.invariant.0 _ c.in_ok-action.ensures

pub loop-preserved : goal.loop-preserved
loop-preserved g c =
    let does = does_in _ _ _ _ c.requires.can c.loop.counter _ c.loop.invariant.0 _ c.in_ok-action.ensures in (
      c.in_ok-act.ensures.ok c.loop.counter c.loop.invariant.0,
      omega (
        arith,
        ap length c.in_ok-push.ensures.ok,
        length-append c.loop.positions (c.in_ok-position_of.field-0 ∷ []),
        c.loop.invariant.1,
      ),
      one_more_fits _ _ _ _ _ c.in_ok-position_of.field-0 c.in_ok-push.ensures.ok c.loop.invariant.2
          (position_fits g.J.Algebra.seen _ c.args.program.now _ c.requires.can c.loop.counter _ c.in_ok-action.action.updates.now _
          c.loop.invariant.0 does c.in_ok-position_of.field-0 c.in_ok-position_of.ensures),
      one_more_step g.J.Algebra.seen _ _ _ _ _ c.in_ok-position_of.field-0 c.loop.counter c.loop.invariant.1 c.in_ok-push.ensures.ok
          c.loop.invariant.3
          (recorded g.J.Algebra.seen _ _ _ c.loop.counter _ c.in_ok-action.action.updates.now _ c.loop.invariant.0 does
          c.in_ok-position_of.field-0 c.in_ok-position_of.ensures),
    )
