use Rattle.definition_expansion.proofs.TextLaws.{text_expands}
use Rattle.definition_expansion.proofs.laws.tree_is_written_as_the_expansion.Goals as goal

pub returns : goal.returns
returns c = text_expands
