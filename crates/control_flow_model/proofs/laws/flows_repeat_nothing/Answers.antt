use Rattle.control_flow_model.proofs.FlowOnce.{nodes_once, tests_choose}
use Rattle.control_flow_model.proofs.laws.flows_repeat_nothing.Goals as goal

pub returns-clause-once : goal.returns-clause-once
returns-clause-once c m space inputs cells outputs windows program is_space flow =
    nodes_once m space inputs cells outputs windows program flow is_space

pub returns-clause-choose : goal.returns-clause-choose
returns-clause-choose c = tests_choose
