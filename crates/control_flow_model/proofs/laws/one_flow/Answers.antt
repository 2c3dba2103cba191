use Rattle.control_flow_model.proofs.FlowOnce.{one_flow}
use Rattle.control_flow_model.proofs.laws.one_flow.Goals as goal

pub returns : goal.returns
returns c = one_flow
