use Rattle.full_bound.proofs.ControllersFail.{controllers_fail}
use Rattle.full_bound.proofs.laws.controllers_fail_or_have_annotations.Goals as goal

pub returns : goal.returns
returns c = controllers_fail
