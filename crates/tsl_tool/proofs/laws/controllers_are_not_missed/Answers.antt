use Rattle.synthesis_commands.proofs.GenReplies.{controller_not_overlooked}
use Rattle.synthesis_commands.proofs.ProveReplies.{controller_not_refuted}
use Rattle.synthesis_commands.proofs.SynthReplies.{controller_not_missed, controller_found}
use Rattle.tsl_tool.proofs.laws.controllers_are_not_missed.Goals as goal

pub returns : goal.returns
returns c = record {
  synth = λ sizes bytes spec reply spells found outcome. controller_not_missed sizes bytes spec spells found reply outcome;
  found = λ sizes bytes spec reply spells found within outcome. controller_found sizes bytes spec spells found reply within outcome;
  prove = controller_not_refuted;
  generated = controller_not_overlooked;
}
