use Rattle.ltl_rewriting.proofs.MergedTruths.{always_merged}
use Rattle.ltl_rewriting.proofs.laws.always_is_merged.Goals as goal

pub returns : goal.returns
returns c = always_merged
