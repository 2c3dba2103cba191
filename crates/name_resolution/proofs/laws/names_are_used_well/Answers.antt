use Rattle.name_resolution.proofs.WholeText.{text_well, text_ranked}
use Rattle.name_resolution.proofs.laws.names_are_used_well.Goals as goal

pub returns-clause-declared : goal.returns-clause-declared
returns-clause-declared c = text_well

pub returns-clause-ranked : goal.returns-clause-ranked
returns-clause-ranked c = text_ranked
