use Rattle.std.proofs.Common.{◌∙◌, slice_index_or, map, option_map, sym, ap, arith}
use Rattle.std.proofs.lemmas.Option.{slice_get-get_or, slice_get-map}
use Rattle.base_library.proofs.Places.{contains_at}
use Rattle.cobuchi_automata.specs.Edges.{edge_tree}
use Rattle.machines.specs.MachineView.{move_tree}
use Rattle.machines.specs.declared.moves.Move.{Move}
use Rattle.full_bound.proofs.StepsListed.{small_pair, along_more, along_same}
use Rattle.full_bound.proofs.pair_steps.add_steps_along.Goals.{then-matches+in_ok-push, else-matches}
use Rattle.full_bound.proofs.pair_steps.add_steps_along.Goals as goal

pub overflow_mul-step : goal.overflow_mul-step
overflow_mul-step c =
    let moves = c.args.moves.now in
    let m : Move = slice_index_or moves c.loop-step.step-index (record { letter = 0; next = 0 }) in
    let at = slice_get-map move_tree moves c.loop-step.step-index ∙ ap (option_map move_tree)
    (slice_get-get_or moves c.loop-step.step-index (record { letter = 0; next = 0 }) c.loop-step-test.true) in
    let few = c.requires.stay (move_tree m) (contains_at (map move_tree moves) c.loop-step.step-index (move_tree m) at) in
    let small = small_pair m.next c.args.states c.args.edge.to few c.requires.few_states c.requires.between.1 in
    omega (arith, small)

pub overflow_add-step : goal.overflow_add-step
overflow_add-step c =
    let moves = c.args.moves.now in
    let m : Move = slice_index_or moves c.loop-step.step-index (record { letter = 0; next = 0 }) in
    let at = slice_get-map move_tree moves c.loop-step.step-index ∙ ap (option_map move_tree)
    (slice_get-get_or moves c.loop-step.step-index (record { letter = 0; next = 0 }) c.loop-step-test.true) in
    let few = c.requires.stay (move_tree m) (contains_at (map move_tree moves) c.loop-step.step-index (move_tree m) at) in
    let small = small_pair m.next c.args.states c.args.edge.to few c.requires.few_states c.requires.between.1 in
    omega (arith, small)

pub loop-step-preserved : goal.loop-step-preserved
loop-step-preserved c =
    let moves = c.args.moves.now in
    let m : Move = slice_index_or moves c.loop-step.step-index (record { letter = 0; next = 0 }) in
    let at = slice_get-get_or moves c.loop-step.step-index (record { letter = 0; next = 0 }) c.loop-step-test.true in
    elim c.if-matches.branch [
      | then-matches+in_ok-push w ↦
          along_more c.args.states (edge_tree c.args.edge) moves c.loop-step.step-index m at c.args.steps.now.items c.loop-step.steps.items
          c.if-matches.steps.items (sym c.matches.ensures ∙ w.if-matches.true) c.loop-step.invariant
          (ap (λ v. v.items) w.steps-is ∙ w.in_ok-push.ensures.items)
      | else-matches w ↦
          along_same c.args.states (edge_tree c.args.edge) moves c.loop-step.step-index m at c.args.steps.now.items c.loop-step.steps.items
          c.if-matches.steps.items (sym c.matches.ensures ∙ w.if-matches.false) c.loop-step.invariant (ap (λ v. v.items) w.steps-is)
    ]
