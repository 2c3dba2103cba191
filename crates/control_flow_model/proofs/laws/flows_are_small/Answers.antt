use Rattle.std.proofs.Common.{arith}
use Rattle.std.proofs.lemmas.Option.{slice_get_within}
use Rattle.control_flow_model.proofs.FlowLemmas.{few_kept, few_nodes, first_kept, state_count}
use Rattle.control_flow_model.proofs.laws.flows_are_small.Goals as goal

pub returns-clause-states : goal.returns-clause-states
returns-clause-states c m space inputs cells outputs windows program is flow =
    let count = state_count m space inputs cells outputs windows program flow in
    let some = slice_get_within flow.kept 0 0 (first_kept m flow.kept flow.are_kept) in (
      count,
      omega (arith, count, some),
      omega (arith, count, few_kept m is flow.kept flow.are_kept),
    )

pub returns-clause-nodes : goal.returns-clause-nodes
returns-clause-nodes c = few_nodes
