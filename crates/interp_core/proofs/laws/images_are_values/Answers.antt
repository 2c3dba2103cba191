use Rattle.interp_core.proofs.ImagesAreValues.{free_value, image_is_value, image_of_value}
use Rattle.interp_core.proofs.laws.images_are_values.Goals as goal

pub returns-clause-free : goal.returns-clause-free
returns-clause-free g c = free_value

pub returns-clause-images : goal.returns-clause-images
returns-clause-images g c = image_is_value

pub returns-clause-calls : goal.returns-clause-calls
returns-clause-calls g c = image_of_value
