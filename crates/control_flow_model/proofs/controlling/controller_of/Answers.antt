use Rattle.std.proofs.Common.{◌∙◌, ◌+◌, length, sym, ap, subst, arith}
use Rattle.std.proofs.lemmas.List.{length_push}
use Rattle.program_tree.specs.ProgramView.{program_tree}
use Rattle.letter_space.specs.SpaceView.{space_tree}
use Rattle.control_flow_model.proofs.EntryLists.{AreEntries, one_more, next_states, is_controller_of}
use Rattle.control_flow_model.proofs.controlling.controller_of.Goals as goal

pub loop-number-preserved : goal.loop-number-preserved
loop-number-preserved c = record {
  count = ap length c.in_ok-push.ensures.ok ∙ length_push c.loop-number.entries c.in_ok-entry_of.field-0
      ∙ ap (λ n. n + 1) c.loop-number.invariant.count;
  are = subst (AreEntries (space_tree c.args.space.now) (program_tree c.args.program.now) c.valuations-valuations.result)
      (sym c.in_ok-push.ensures.ok)
      (one_more (space_tree c.args.space.now) (program_tree c.args.program.now) c.valuations-valuations.result c.loop-number.entries
      c.loop-number.number c.in_ok-entry_of.field-0 c.loop-number.invariant.count c.loop-number.invariant.are
      c.in_ok-entry_of.ensures.entry c.in_ok-entry_of.ensures.stays);
}

pub invariant_of-result : goal.invariant_of-result
invariant_of-result c = record {
  has_state = omega (arith, c.len-states.ensures, c.args.program.now.states_fit.0);
  has_entries = omega (arith, c.loop-number.invariant.count, c.loop-number-test.false, c.loop-number.auto.number-end);
  stays = next_states (space_tree c.args.space.now) (program_tree c.args.program.now) c.valuations-valuations.result c.loop-number.entries
      c.len-states.result c.len-states.ensures c.loop-number.invariant.are;
}

pub returns : goal.returns
returns c =
    is_controller_of (space_tree c.args.space.now) (program_tree c.args.program.now) c.len-states.result c.valuations-valuations.result
    c.loop-number.entries (omega (arith, c.len-states.ensures, c.args.program.now.states_fit.0)) c.valuations-valuations.ensures
    c.len-states.ensures
    (omega (arith, c.loop-number.invariant.count, c.loop-number-test.false, c.loop-number.auto.number-end)) c.loop-number.invariant.are
