use Rattle.name_resolution.proofs.WrittenTexts.{occurrences_texts}
use Rattle.name_resolution.proofs.laws.occurrences_stand_in_order.Goals as goal

pub returns : goal.returns
returns c = occurrences_texts
