use Rattle.definition_expansion.proofs.OneExpansion.{one_expansion}
use Rattle.definition_expansion.proofs.laws.text_has_one_expansion.Goals as goal

pub returns : goal.returns
returns c = one_expansion
