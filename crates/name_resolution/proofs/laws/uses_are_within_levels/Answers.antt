use Rattle.name_resolution.proofs.WholeText.{text_fits}
use Rattle.name_resolution.proofs.laws.uses_are_within_levels.Goals as goal

pub returns : goal.returns
returns c = text_fits
