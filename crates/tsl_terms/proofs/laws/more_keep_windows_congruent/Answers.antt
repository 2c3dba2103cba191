use Rattle.tsl_terms.proofs.MoreListed.{more_keep_windows_congruent}
use Rattle.tsl_terms.proofs.laws.more_keep_windows_congruent.Goals as goal

pub returns : goal.returns
returns c = more_keep_windows_congruent
