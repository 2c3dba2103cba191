use Rattle.std.proofs.Common.{◌≤◌, arith}
use Rattle.program_tree.specs.ProgramView.{program_tree}
use Rattle.tsl_meaning.specs.Run.{configuration_at}
use Rattle.table_runner.specs.Running.{rows_seen}
use Rattle.table_runner.proofs.Meeting.{steady}
use Rattle.table_runner.proofs.Brent.{none_within}
use Rattle.table_runner.proofs.closing.some_return.Goals as goal

pub returns-in-Some-clause-found : goal.returns-in-Some-clause-found
returns-in-Some-clause-found g c =
    let found = rw c.in-Some.is at (c.in_ok-length.ensures.found c.loop-standing.step c.loop-standing.invariant.0) in found.0

pub returns-in-Some-clause-bounds : goal.returns-in-Some-clause-bounds
returns-in-Some-clause-bounds g c =
    let found = rw c.in-Some.is at (c.in_ok-length.ensures.found c.loop-standing.step c.loop-standing.invariant.0) in
    (omega (arith, c.loop-standing.invariant.1, c.loop-standing.invariant.2), omega (arith, found.1, c.loop-standing.invariant.2))

pub returns-then-reach-from-clause-no_loop : goal.returns-then-reach-from-clause-no_loop
returns-then-reach-from-clause-no_loop g c refused i j before below =
    let away = rw c.in_default.is at (c.in_ok-length.ensures.found c.loop-standing.step c.loop-standing.invariant.0) in
    let far : c.args.limit ≤ c.loop-standing.reach = omega (arith, c.if-reach-from.true, c.from.ensures) in
    none_within (configuration_at (g.J.Algebra.meanings c.args.judge.now) (program_tree c.args.program.now)
    (rows_seen g.J.Algebra.seen c.args.inputs.now))
    (steady g.J.Algebra.seen (g.J.Algebra.meanings c.args.judge.now) (program_tree c.args.program.now)
    (rows_seen g.J.Algebra.seen c.args.inputs.now)) c.loop-standing.step c.loop-standing.reach i j away before
    (omega (arith, below, far, c.loop-standing.invariant.1)) (omega (arith, below, far))

pub loop-standing-preserved : goal.loop-standing-preserved
loop-standing-preserved g c = (
  c.in_ok-length.ensures.goes_on c.in_default.is c.loop-standing.step c.loop-standing.invariant.0,
  omega (arith, c.loop-standing.invariant.1),
  omega (arith, c.if-reach-from.false, c.from.ensures, c.ranges.limit.fits),
)
