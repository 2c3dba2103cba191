use Rattle.tsl_terms.specs.TermTree.{term_tree}
use Rattle.letter_space.specs.ControlledView.{controlled_tree}
use Rattle.control_flow_model.proofs.PickedTerms.{picked_place}
use Rattle.control_flow_model.proofs.controlling.pick_of.Goals as goal

pub returns-in-Some : goal.returns-in-Some
returns-in-Some c = picked_place (controlled_tree c.args.controlled.now) (term_tree c.args.term.now) c.in-Some.bit c.in-Some.ensures
