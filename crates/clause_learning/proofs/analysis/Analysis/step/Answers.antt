use Rattle.std.proofs.Common.{arith}
use Rattle.sat_trail.proofs.Soundness.{length_entries}
use Rattle.clause_learning.proofs.analysis.Analysis.step.Goals as goal

pub is_seen-requires : goal.is_seen-requires
is_seen-requires c =
    let t = c.args.trail.now in
    omega (
      arith,
      c.requires.within,
      length_entries t.variables t.clauses t.entries c.requires.trail.sound.stand,
      c.requires.analysis.seen.one_each,
    )
