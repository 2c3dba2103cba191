use Rattle.std.proofs.Common.{◌∙◌, ◌<◌, length, [], ◌∷◌, ◌++◌, ap, arith, refl}
use Rattle.std.proofs.lemmas.Option.{slice_get_read}
use Rattle.machines.specs.MachineView.{controller_tree}
use Rattle.machines.proofs.ControllerTables.{is_controller}
use Rattle.control_flow_model.proofs.FlowLemmas.{reachable_below}
use Rattle.control_flow_model.proofs.ReachingLemmas.{found_first, found_more, few_found}
use Rattle.control_flow_model.proofs.reaching.found_states.Goals as goal

pub loop-expanded-init : goal.loop-expanded-init
loop-expanded-init c =
    found_first (controller_tree c.args.controller.now) c.push.new.self.items
    (c.in_ok-push.ensures.items ∙ ap (λ ns. ns ++ 0 ∷ []) c.new-found.ensures.items)

pub add_next-requires : goal.add_next-requires
add_next-requires c =
    let within : c.loop-expanded.expanded < length c.loop-expanded.found.items =
    omega (arith, c.loop-expanded-test.true, c.len.ensures) in
    let here = slice_get_read c.loop-expanded.found.items (length c.loop-expanded.found.items) c.loop-expanded.expanded
    c.index-state.result.now refl within c.index-state.ensures in
    reachable_below (controller_tree c.args.controller.now) (is_controller c.args.controller.now) c.index-state.result.now
    (c.loop-expanded.invariant.reached c.loop-expanded.expanded c.index-state.result.now here)

pub loop-expanded-smaller : goal.loop-expanded-smaller
loop-expanded-smaller c =
    let few = few_found (controller_tree c.args.controller.now) (is_controller c.args.controller.now) c.loop-expanded.expanded
    c.loop-expanded.found.items c.loop-expanded.invariant in
    let within : c.loop-expanded.expanded < length c.loop-expanded.found.items = omega (arith, c.loop-expanded-test.true, c.len.ensures) in
    omega (arith, few, within)

pub loop-expanded-preserved : goal.loop-expanded-preserved
loop-expanded-preserved c =
    let within : c.loop-expanded.expanded < length c.loop-expanded.found.items = omega (arith, c.loop-expanded-test.true, c.len.ensures) in
    let here = slice_get_read c.loop-expanded.found.items (length c.loop-expanded.found.items) c.loop-expanded.expanded
    c.index-state.result.now refl within c.index-state.ensures in
    found_more (controller_tree c.args.controller.now) c.loop-expanded.expanded c.index-state.result.now c.loop-expanded.found.items
    c.add_next.new.found.items c.loop-expanded.invariant here c.in_ok-add_next.ensures
