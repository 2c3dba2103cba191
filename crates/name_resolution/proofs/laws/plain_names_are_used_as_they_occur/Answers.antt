use Rattle.name_resolution.proofs.WholeText.{text_plain}
use Rattle.name_resolution.proofs.laws.plain_names_are_used_as_they_occur.Goals as goal

pub returns : goal.returns
returns c = text_plain
