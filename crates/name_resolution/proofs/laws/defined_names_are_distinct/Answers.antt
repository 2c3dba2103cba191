use Rattle.name_resolution.proofs.WholeText.{heads_stand}
use Rattle.name_resolution.proofs.laws.defined_names_are_distinct.Goals as goal

pub returns : goal.returns
returns c = heads_stand
