use Rattle.std.proofs.Common.{◌≡◌, ◌∙◌, sym, ap, subst, filter, arith}
use Rattle.base_library.specs.Numbers.{is_among, numbers_from}
use Rattle.base_library.proofs.Numbers.{numbers_passed_more}
use Rattle.machines.specs.MachineView.{controller_tree}
use Rattle.machines.proofs.ControllerTables.{is_controller}
use Rattle.control_flow_model.specs.Flow.{AreKept}
use Rattle.control_flow_model.proofs.ReachingLemmas.{are_kept}
use Rattle.control_flow_model.proofs.reaching.reachable_states.Goals as goal

pub loop-state-preserved : goal.loop-state-preserved
loop-state-preserved c =
    numbers_passed_more (is_among c.in_ok-found.found.items) c.loop-state.state c.loop-state.kept.items c.push_if.new.list.items
    c.is_among.result c.loop-state.invariant c.in_ok-push_if.ensures
    (c.is_among.ensures ∙ ap (λ ns. is_among ns c.loop-state.state) c.deref.ensures.value)

pub returns : goal.returns
returns c =
    let end : c.loop-state.state ≡ c.args.controller.now.states = omega (arith, c.loop-state-test.false, c.loop-state.auto.state-end) in
    subst (AreKept (controller_tree c.args.controller.now))
    (sym (c.loop-state.invariant ∙ ap (λ n. filter (is_among c.in_ok-found.found.items) (numbers_from 0 n)) end))
    (are_kept (controller_tree c.args.controller.now) (is_controller c.args.controller.now) c.in_ok-found.found.items c.in_ok-found.ensures)
