use Rattle.std.proofs.Common.{◌≡◌, ◌∙◌, ◌+◌, ◌*◌, map, length, option_map, slice_get, refl, sym, ap, arith}
use Rattle.std.proofs.lemmas.List.{length-set}
use Rattle.std.proofs.lemmas.Option.{slice_get-map, slice_get_read}
use Rattle.cobuchi_automata.specs.Edges.{edge_tree, edge_trees}
use Rattle.machines.specs.MachineView.{move_tree}
use Rattle.annotation_check.proofs.ListedByState.{leaves_below}
use Rattle.full_bound.specs.internal.Search.{steps_from}
use Rattle.full_bound.proofs.StepsListed.{listed_more}
use Rattle.full_bound.proofs.pair_steps.add_steps.Goals as goal

pub loop-edge-preserved : goal.loop-edge-preserved
loop-edge-preserved c =
    let automaton = c.args.automaton.now in
    let e = c.edge-item.result in
    let own = c.args.state * automaton.states + e.from in
    let below = leaves_below c.as_slice-edge-items.result.now automaton.edges c.as_slice-edge-items.ensures c.loop-edge.edge-index e
    automaton.states (omega arith) c.edge-item.is automaton.between in
    let here = ap (λ es. slice_get es c.loop-edge.edge-index) (sym c.as_slice-edge-items.ensures)
    ∙ slice_get_read c.as_slice-edge-items.result.now (length c.as_slice-edge-items.result.now) c.loop-edge.edge-index e refl (omega arith)
    c.edge-item.is in
    let at = slice_get-map edge_tree automaton.edges c.loop-edge.edge-index ∙ ap (option_map edge_tree) here in
    let room = c.requires.pairs in
    let long = c.loop-edge.invariant.0 in
    let apart : (c.args.state + 1) * automaton.states ≡ c.args.state * automaton.states + automaton.states = omega arith in (
      length-set c.loop-edge.table.items own c.add_steps_along.new.steps ∙ long,
      listed_more automaton.states (let some = automaton.starts in omega (arith, some)) c.args.state (map move_tree c.args.moves.now)
          (edge_tree e)
          below c.loop-edge.table.items c.index_mut.result.now c.add_steps_along.new.steps (steps_from c.args.table.now.items)
          (edge_trees automaton.edges) c.loop-edge.edge-index at (omega (arith, below, room, long, apart)) c.index_mut.ensures.value
          c.in_ok-add_steps_along.ensures c.loop-edge.invariant.1,
    )
