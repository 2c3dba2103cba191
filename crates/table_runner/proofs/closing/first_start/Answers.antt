use Rattle.std.proofs.Common.{◌∙◌, ◌+◌, sym, arith}
use Rattle.std.proofs.lemmas.Bool.{false≢true}
use Rattle.table_runner.proofs.Meeting.{moved, none_before}
use Rattle.table_runner.proofs.closing.first_start.Goals as goal

pub loop-preserved : goal.loop-preserved
loop-preserved g c = c.in_ok-advance.ensures.ok c.loop.counter c.loop.invariant

pub loop-start-init : goal.loop-start-init
loop-start-init g c = (
  c.in_ok-earlier.ensures,
  moved g.J.Algebra.seen _ _ _ c.loop.counter (0 + c.args.found.length) _ (omega (
    arith,
    c.loop-test.false,
    c.loop.auto.counter-end,
  )) c.loop.invariant,
  λ k below. absurd (omega (arith, below)),
)

pub loop-start-preserved : goal.loop-start-preserved
loop-start-preserved g c = (
  c.in_ok-advance-2.ensures.ok c.loop-start.start c.loop-start.invariant.0,
  moved g.J.Algebra.seen _ _ _ ((c.loop-start.start + c.args.found.length) + 1) ((c.loop-start.start + 1) + c.args.found.length) _
      (omega arith)
      (c.in_ok-advance-3.ensures.ok (c.loop-start.start + c.args.found.length) c.loop-start.invariant.1),
  none_before g.J.Algebra.seen _ _ _ c.args.found.length c.loop-start.start _ _ c.loop-start.invariant.0 c.loop-start.invariant.1
      (λ same. false≢true (sym c.if-same_configuration.false ∙ c.same_configuration.ensures.1 same)) c.loop-start.invariant.2,
)
