use Rattle.ltl_rewriting.proofs.MergedTruths.{sometime_merged}
use Rattle.ltl_rewriting.proofs.laws.sometime_is_merged.Goals as goal

pub returns : goal.returns
returns c = sometime_merged
