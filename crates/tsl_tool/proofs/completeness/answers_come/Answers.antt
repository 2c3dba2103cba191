use Rattle.checking_commands.proofs.OneInput.{read_once}
use Rattle.tsl_tool.proofs.AnswersCome.{answers_come, program_or_spent}
use Rattle.tsl_tool.proofs.completeness.answers_come.Goals as goal

pub returns : goal.returns
returns c = record {
  answer = answers_come (read_once c.one_reading.ensures.tables c.one_reading-2.ensures c.one_reading.ensures.inputs);
  found = program_or_spent;
}
