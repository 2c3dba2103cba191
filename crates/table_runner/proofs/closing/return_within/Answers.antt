use Rattle.std.proofs.Common.{◌≡◌, ◌∙◌, ◌+◌, sym, subst, arith}
use Rattle.std.proofs.lemmas.Bool.{false≢true}
use Rattle.program_tree.specs.ProgramView.{program_tree}
use Rattle.table_runner.specs.Running.{rows_seen}
use Rattle.table_runner.specs.Standings.{StandsAt}
use Rattle.table_runner.proofs.Meeting.{returned, not_returned, one_on}
use Rattle.table_runner.proofs.closing.return_within.Goals as goal

pub advance-requires-clause-stands : goal.advance-requires-clause-stands
advance-requires-clause-stands g c =
    (c.requires.stands.0 + c.loop-steps.steps, (c.loop-steps.invariant c.requires.stands.0 c.requires.stands.1).0)

pub returns-then-same_configuration-clause-found : goal.returns-then-same_configuration-clause-found
returns-then-same_configuration-clause-found g c t stands =
    let so_far = c.loop-steps.invariant t stands in (
      returned g.J.Algebra.seen _ _ _ t c.loop-steps.steps c.args.standing.now _ _ stands c.in_ok-kept.ensures
          (c.in_ok-advance.ensures.ok _ so_far.0) so_far.1 (c.same_configuration.ensures.0 c.if-same_configuration.true),
      omega (arith, c.loop-steps-test.true),
    )

pub loop-steps-preserved : goal.loop-steps-preserved
loop-steps-preserved g c t stands =
    let so_far = c.loop-steps.invariant t stands in (
      one_on g.J.Algebra.seen _ _ _ t c.loop-steps.steps _ (c.in_ok-advance.ensures.ok _ so_far.0),
      not_returned g.J.Algebra.seen _ _ _ t c.loop-steps.steps c.args.standing.now _ _ stands c.in_ok-kept.ensures
          (c.in_ok-advance.ensures.ok _ so_far.0) so_far.1
          (λ same. false≢true (sym c.if-same_configuration.false ∙ c.same_configuration.ensures.1 same)),
    )

pub returns-clause-found : goal.returns-clause-found
returns-clause-found g c t stands k some within =
    (c.loop-steps.invariant t stands).1 k some (omega (arith, within, c.loop-steps-test.false, c.loop-steps.auto.steps-end))

pub returns-clause-goes_on : goal.returns-clause-goes_on
returns-clause-goes_on g c none t stands =
    let end : c.loop-steps.steps ≡ c.args.reach = omega (arith, c.loop-steps-test.false, c.loop-steps.auto.steps-end) in
    subst (λ n. StandsAt g.J.Algebra.seen (g.J.Algebra.meanings c.args.judge.now) (program_tree c.args.program.now)
    (rows_seen g.J.Algebra.seen c.args.inputs.now) (t + n) c.loop-steps.standing) end (c.loop-steps.invariant t stands).0
