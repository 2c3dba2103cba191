use Rattle.branch_finder.proofs.PlaneLemmas.{set_is}
use Rattle.branch_finder.proofs.planes.set_bit.Goals as goal

pub returns-clause-set : goal.returns-clause-set
returns-clause-set c = set_is c.args.plane.now c.args.bit c.requires.within
