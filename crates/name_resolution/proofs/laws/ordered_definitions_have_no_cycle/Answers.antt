use Rattle.name_resolution.proofs.HeadPlaces.{ordered_are_acyclic}
use Rattle.name_resolution.proofs.laws.ordered_definitions_have_no_cycle.Goals as goal

pub returns : goal.returns
returns c = ordered_are_acyclic
