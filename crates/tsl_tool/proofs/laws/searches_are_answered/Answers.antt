use Rattle.synthesis_commands.proofs.GenReplies.{gen_answers}
use Rattle.synthesis_commands.proofs.ProveReplies.{question_answers}
use Rattle.synthesis_commands.proofs.SynthReplies.{search_answers}
use Rattle.tsl_tool.proofs.laws.searches_are_answered.Goals as goal

pub returns : goal.returns
returns c = record {
  synth = λ sizes bytes spec reply spells within outcome. search_answers sizes bytes spec spells reply within outcome;
  prove = question_answers;
  generated = gen_answers;
}
