use Rattle.control_flow_model.proofs.OneController.{one_controller}
use Rattle.control_flow_model.proofs.laws.one_controller.Goals as goal

pub returns : goal.returns
returns c = one_controller
