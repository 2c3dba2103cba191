use Rattle.control_flow_model.proofs.FlowLemmas.{flow_has_bits}
use Rattle.control_flow_model.proofs.laws.flows_have_bits.Goals as goal

pub returns : goal.returns
returns c m space inputs cells outputs windows program signals flow =
    flow_has_bits m space inputs cells outputs windows program flow signals
