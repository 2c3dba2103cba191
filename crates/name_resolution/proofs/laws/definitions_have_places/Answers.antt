use Rattle.name_resolution.proofs.HeadPlaces.{head_place}
use Rattle.name_resolution.proofs.laws.definitions_have_places.Goals as goal

pub returns : goal.returns
returns c = head_place
