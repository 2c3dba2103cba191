use Rattle.refutation_text.proofs.Parted.{commented_spelled}
use Rattle.refutation_text.proofs.laws.commented_refutations_are_spelled.Goals as goal

pub returns : goal.returns
returns c = commented_spelled
