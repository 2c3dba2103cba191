use Rattle.control_flow_model.proofs.FlowLemmas.{flow_walks, first_kept}
use Rattle.control_flow_model.proofs.laws.flows_walk_as_controllers.Goals as goal

pub returns-clause-walks : goal.returns-clause-walks
returns-clause-walks c m space inputs cells outputs windows program is_space fits flow i s v =
    flow_walks m space inputs cells outputs windows program flow is_space v fits i s

pub returns-clause-start : goal.returns-clause-start
returns-clause-start c m kept are = first_kept m kept are
