use Rattle.std.proofs.Common.{◌∙◌, length, refl, sym, ap, subst, arith, option_map}
use Rattle.std.proofs.lemmas.List.{take_all, length-map}
use Rattle.std.proofs.lemmas.Option.{slice_get-map, slice_get_read}
use Rattle.cobuchi_automata.specs.Edges.{edge_tree, edge_trees}
use Rattle.annotation_check.specs.internal.Steps.{AreSteps}
use Rattle.annotation_check.proofs.StepsMatched.{edge_more, written_length}
use Rattle.annotation_check.proofs.stepping.steps_of.Goals as goal

pub loop-edge-preserved : goal.loop-edge-preserved
loop-edge-preserved c =
    let inv = c.loop-edge.invariant in
    let edges = c.args.edges.now in
    let i = c.loop-edge.edge-index in (
      written_length c.loop-edge.matches.len c.add_steps.new.matches _ (sym (c.add_steps.auto.matches ∙ c.deref_mut.ensures.len))
          ∙ c.loop-edge.matches.ok.0 ∙ inv.0,
      λ listed listing. edge_more listed (edge_trees edges) i (edge_tree c.edge-item.result) c.loop-edge.steps.items
          c.add_steps.new.steps.items
          (slice_get-map edge_tree edges i
          ∙ ap (option_map edge_tree) (slice_get_read edges (length edges) i c.edge-item.result refl (omega arith) c.edge-item.is))
          (inv.1 listed listing) (c.in_ok-add_steps.ensures listed listing),
    )

pub returns : goal.returns
returns c listed listing =
    let edges = c.args.edges.now in
    let i = c.loop-edge.edge-index in
    let many = length-map edges edge_tree in
    subst (λ es. AreSteps listed es c.loop-edge.steps.items)
    (take_all i (edge_trees edges) (let past = c.loop-edge-test.false in omega (arith, past, many))) (c.loop-edge.invariant.1 listed listing)
