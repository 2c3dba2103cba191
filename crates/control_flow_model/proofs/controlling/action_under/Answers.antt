use Rattle.std.proofs.Common.{◌∙◌, List, Some, length, map, sym, ap, arith}
use Rattle.std.proofs.lemmas.List.{length-map}
use Rattle.base_library.proofs.Passes.{passes_at}
use Rattle.tsl_terms.specs.declared.term.Term.{Term}
use Rattle.tsl_terms.specs.TermTree.{probe_tree, term_tree}
use Rattle.program_tree.specs.Walk.{Action}
use Rattle.program_tree.specs.NodeTree.{node_tree, assign}
use Rattle.program_tree.specs.ProgramView.{program_tree}
use Rattle.program_tree.proofs.Walking.{begins, state_read, node_within, node_read, branch_taken, end_reached, cond_below}
use Rattle.letter_space.specs.SpaceView.{space_tree}
use Rattle.control_flow_model.specs.ProgramBits.{are_terms_chosen, node_has_bits}
use Rattle.control_flow_model.specs.ControllerOf.{truth_under}
use Rattle.control_flow_model.proofs.WalksThere.{test_has_bit}
use Rattle.control_flow_model.proofs.controlling.action_under.Goals as goal

pub loop-node-init : goal.loop-node-init
loop-node-init c =
    begins (program_tree c.args.program.now) (truth_under (space_tree c.args.space.now) c.args.valuation) c.args.state _
    (state_read _ _ _ _ 0 c.as_slice.ensures c.requires.acts)

pub bounds-as_slice-node : goal.bounds-as_slice-node
bounds-as_slice-node c =
    let within = node_within _ _ _ _ c.requires.acts c.loop-node.invariant in
    omega (arith, within, length-map c.args.program.now.nodes node_tree, ap length c.as_slice-in-loop-node.ensures)

pub holds_under-holds-requires : goal.holds_under-holds-requires
holds_under-holds-requires c =
    let within = node_within _ _ _ _ c.requires.acts c.loop-node.invariant in
    test_has_bit c.args.program.now (space_tree c.args.space.now) c.args.valuation c.requires.bits _ _ _ (probe_tree c.in-If.test)
    (node_read _ _ _ _ _ c.as_slice-in-loop-node.ensures within c.index-as_slice-node.is c.in-If.is)

pub loop-node-smaller : goal.loop-node-smaller
loop-node-smaller c =
    let within = node_within _ _ _ _ c.requires.acts c.loop-node.invariant in
    let fits = c.args.program.now.branches_fit _ _ _ _ (node_read _ _ _ _ _ c.as_slice-in-loop-node.ensures within
    c.index-as_slice-node.is c.in-If.is) in
    rw c.chosen-node.ensures (cond_below _ _ _ _ fits.0 fits.1)

pub loop-node-preserved : goal.loop-node-preserved
loop-node-preserved c =
    let within = node_within _ _ _ _ c.requires.acts c.loop-node.invariant in
    rw c.chosen-node.ensures (branch_taken _ _ _ _ _ _ (probe_tree c.in-If.test) _ c.requires.acts c.loop-node.invariant
    (node_read _ _ _ _ _ c.as_slice-in-loop-node.ensures within c.index-as_slice-node.is c.in-If.is) c.holds_under-holds.ensures)

pub returns-in-Set-clause-walks : goal.returns-in-Set-clause-walks
returns-in-Set-clause-walks c =
    let within = node_within _ _ _ _ c.requires.acts c.loop-node.invariant in
    let end = end_reached _ _ _ _ _ _ c.requires.acts c.loop-node.invariant
    (node_read _ _ _ _ _ c.as_slice-in-loop-node.ensures within c.index-as_slice-node.is c.in-Set.is) in
    end ∙ ap (λ us. Some (did us)) (sym c.as_slice-in-Set.ensures)
  where
    did : List Term → Action
    did us = record { updates = map term_tree us; go = c.in-Set.go }

pub returns-in-Set-clause-chosen : goal.returns-in-Set-clause-chosen
returns-in-Set-clause-chosen c =
    let within = node_within _ _ _ _ c.requires.acts c.loop-node.invariant in
    ap (λ us. are_terms_chosen (space_tree c.args.space.now).controlled (map term_tree us)) c.as_slice-in-Set.ensures
    ∙ passes_at (node_has_bits (space_tree c.args.space.now)) (map node_tree c.args.program.now.nodes) c.loop-node.node
    (assign (map term_tree c.in-Set.updates) c.in-Set.go) c.requires.bits.nodes
    (node_read _ _ _ _ _ c.as_slice-in-loop-node.ensures within c.index-as_slice-node.is c.in-Set.is)

pub returns-in-Set-clause-stays : goal.returns-in-Set-clause-stays
returns-in-Set-clause-stays c =
    let within = node_within _ _ _ _ c.requires.acts c.loop-node.invariant in
    (c.args.program.now.assignments_fit c.loop-node.node c.in-Set.go (map term_tree c.in-Set.updates)
    (node_read _ _ _ _ _ c.as_slice-in-loop-node.ensures within c.index-as_slice-node.is c.in-Set.is)).1
