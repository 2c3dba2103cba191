use Rattle.std.proofs.Common.{[], refl, sym, ◌++◌, ◌∷◌}
use Rattle.machines.specs.MachineView.{entry_tree, controller_tree}
use Rattle.control_flow_model.proofs.ReachingLemmas.{no_next, next_more, adds_next, added_more}
use Rattle.control_flow_model.proofs.reaching.add_next.Goals as goal

pub loop-valuation-init : goal.loop-valuation-init
loop-valuation-init c = ([], no_next (controller_tree c.args.controller.now) c.args.state, refl)

pub loop-valuation-preserved : goal.loop-valuation-preserved
loop-valuation-preserved c = (
  c.loop-valuation.invariant.0 ++ c.entry.result.now.next ∷ [],
  next_more (controller_tree c.args.controller.now) c.args.state c.loop-valuation.valuation c.loop-valuation.invariant.0
      (entry_tree c.entry.result.now) c.loop-valuation.invariant.1 (sym c.entry.ensures),
  added_more c.args.found.now.items c.loop-valuation.found.items c.add_state.new.found.items c.loop-valuation.invariant.0
      c.entry.result.now.next c.loop-valuation.invariant.2 c.in_ok-add_state.ensures,
)

pub returns : goal.returns
returns c =
    adds_next (controller_tree c.args.controller.now) c.args.state c.loop-valuation.valuation c.args.found.now.items
    c.loop-valuation.found.items c.loop-valuation.invariant.0 c.loop-valuation-test.false c.loop-valuation.invariant.1
    c.loop-valuation.invariant.2
