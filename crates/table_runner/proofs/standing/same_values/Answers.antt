use Rattle.std.proofs.Common.{◌∙◌, sym, arith}
use Rattle.std.proofs.lemmas.Bool.{false≢true}
use Rattle.table_runner.proofs.Comparing.{same_at}
use Rattle.table_runner.proofs.standing.same_values.Goals as goal

pub returns-then-not-same : goal.returns-then-not-same
returns-then-not-same g c = (
  λ never. absurd (false≢true never),
  λ same. sym c.if-not-same.true ∙ c.same.ensures.1 (same_at g.A.Algebra.seen c.args.a.now c.args.b.now c.loop-i.i _ _ same (omega arith)
      c.loop-i-test.true c.index-a-i.is c.index-b-i.is),
)
