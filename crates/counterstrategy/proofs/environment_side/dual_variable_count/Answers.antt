use Rattle.std.proofs.Common.{◌∙◌, ap}
use Rattle.bounded_encoding.specs.Frames.{variables_of}
use Rattle.counterstrategy.proofs.ServedEnvironments.{environment_framed}
use Rattle.counterstrategy.proofs.environment_side.dual_variable_count.Goals as goal

pub variables_in_all-requires : goal.variables_in_all-requires
variables_in_all-requires c = environment_framed c.args.question.now c.requires.asked c.frame_of.result c.frame_of.ensures

pub returns : goal.returns
returns c = c.variables_in_all.ensures ∙ ap variables_of c.frame_of.ensures
