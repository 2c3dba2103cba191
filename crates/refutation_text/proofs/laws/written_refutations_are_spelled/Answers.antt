use Rattle.refutation_text.proofs.Parted.{refutation_spelled}
use Rattle.refutation_text.proofs.laws.written_refutations_are_spelled.Goals as goal

pub returns : goal.returns
returns c = refutation_spelled
