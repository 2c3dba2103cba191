use Rattle.std.proofs.Common.{sym}
use Rattle.sat_trail.proofs.TrailSteps.{no_pairs_from}
use Rattle.sat_trail.proofs.trail.Trail.new.Goals as goal

pub with_learnt-requires-clause-formula : goal.with_learnt-requires-clause-formula
with_learnt-requires-clause-formula c = no_pairs_from c.args.cnf.now.clauses (sym c.in_default.ensures)
