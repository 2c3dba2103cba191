use Rattle.std.proofs.Common.{false}
use Rattle.position_planes.proofs.positions.everywhere.Goals as goal

pub returns : goal.returns
returns c = c.negated.ensures.truths c.args.positions (λ i. false) c.in_ok-nowhere.ensures
