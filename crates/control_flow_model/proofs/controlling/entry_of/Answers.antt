use Rattle.std.proofs.Common.{◌∙◌, map, refl, ap}
use Rattle.tsl_terms.specs.TermTree.{term_tree}
use Rattle.letter_space.specs.SpaceView.{space_tree}
use Rattle.control_flow_model.specs.ControllerOf.{terms_picked}
use Rattle.control_flow_model.proofs.WalksThere.{walk_there}
use Rattle.control_flow_model.proofs.controlling.entry_of.Goals as goal

pub action_under-action-requires-clause-acts : goal.action_under-action-requires-clause-acts
action_under-action-requires-clause-acts c =
    walk_there c.args.program.now (space_tree c.args.space.now) c.args.valuation c.requires.bits c.args.state c.requires.state

pub returns-clause-entry : goal.returns-clause-entry
returns-clause-entry c = record {
  action = record { updates = map term_tree c.action_under-action.result.updates.now; go = c.action_under-action.result.go };
  walks = c.action_under-action.ensures.walks;
  assigns = ap (terms_picked (space_tree c.args.space.now).controlled) c.from_vec-choices.ensures ∙ c.in_ok-picks_of.ensures;
  goes = refl;
}
