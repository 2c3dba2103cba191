use Rattle.std.proofs.Common.{◌∙◌, List, Some, length, map, sym, ap, arith}
use Rattle.std.proofs.lemmas.List.{length-map}
use Rattle.tsl_terms.specs.Value.{truth}
use Rattle.tsl_terms.specs.TermTree.{probe_tree, term_tree}
use Rattle.tsl_terms.specs.declared.term.Term.{Term}
use Rattle.program_tree.specs.Walk.{Action}
use Rattle.program_tree.specs.NodeTree.{node_tree}
use Rattle.program_tree.specs.ProgramView.{program_tree}
use Rattle.interp_core.specs.LeafValue.{leaf_value}
use Rattle.program_tree.proofs.Walking.{begins, state_read, node_within, node_read, test_there, branch_taken, end_reached, cond_below}
use Rattle.table_runner.proofs.acting.action_in.Goals as goal

pub loop-node-init : goal.loop-node-init
loop-node-init g c =
    begins (program_tree c.args.program.now) (truth (g.J.Algebra.meanings c.args.judge.now) (leaf_value g.J.Algebra.seen c.args.leaves.now))
    c.args.state _ (state_read _ _ _ _ 0 c.as_slice.ensures c.requires.acts)

pub bounds-as_slice-node : goal.bounds-as_slice-node
bounds-as_slice-node g c =
    let within = node_within _ _ _ _ c.requires.acts c.loop-node.invariant in
    omega (arith, length-map c.args.program.now.nodes node_tree, ap length c.as_slice-in-loop-node.ensures)

pub test_term-requires : goal.test_term-requires
test_term-requires g c = record {
  had =
      let within = node_within _ _ _ _ c.requires.acts c.loop-node.invariant in
      test_there _ _ _ _ _ _ (probe_tree c.in-If.test) c.requires.acts c.loop-node.invariant
      (node_read _ _ _ _ _ c.as_slice-in-loop-node.ensures within c.index-as_slice-node.is c.in-If.is);
}

pub loop-node-smaller : goal.loop-node-smaller
loop-node-smaller g c =
    let within = node_within _ _ _ _ c.requires.acts c.loop-node.invariant in
    let fits = c.args.program.now.branches_fit _ _ _ _ (node_read _ _ _ _ _ c.as_slice-in-loop-node.ensures within
    c.index-as_slice-node.is c.in-If.is) in
    rw c.chosen-node.ensures (cond_below _ _ _ _ fits.0 fits.1)

pub loop-node-preserved : goal.loop-node-preserved
loop-node-preserved g c =
    let within = node_within _ _ _ _ c.requires.acts c.loop-node.invariant in
    rw c.chosen-node.ensures (branch_taken _ _ _ _ _ _ (probe_tree c.in-If.test) _ c.requires.acts c.loop-node.invariant
    (node_read _ _ _ _ _ c.as_slice-in-loop-node.ensures within c.index-as_slice-node.is c.in-If.is) c.in_ok-holds-in-If.ensures)

pub returns-in-Set : goal.returns-in-Set
returns-in-Set g c =
    let within = node_within _ _ _ _ c.requires.acts c.loop-node.invariant in
    let end = end_reached _ _ _ _ _ _ c.requires.acts c.loop-node.invariant
    (node_read _ _ _ _ _ c.as_slice-in-loop-node.ensures within c.index-as_slice-node.is c.in-Set.is) in
    end ∙ ap (λ us. Some (did us)) (sym c.as_slice-in-Set.ensures)
  where
    did : List Term → Action
    did us = record { updates = map term_tree us; go = c.in-Set.go }
