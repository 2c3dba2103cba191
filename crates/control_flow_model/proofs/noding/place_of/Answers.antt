use Rattle.std.proofs.Common.{◌∙◌, sym}
use Rattle.control_flow_model.proofs.NodeLemmas.{never_absent}
use Rattle.control_flow_model.proofs.noding.place_of.Goals as goal

pub returns-in-None : goal.returns-in-None
returns-in-None c = absurd (never_absent c.args.states.now c.args.state c.requires.there (sym c.position_of.ensures ∙ c.in-None.is))
