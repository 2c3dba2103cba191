use Rattle.checking_commands.proofs.OneInput.{read_once}
use Rattle.tsl_tool.proofs.VerdictsCome.{check_answers, run_answers, recheck_answers}
use Rattle.tsl_tool.proofs.completeness.inputs_get_verdicts.Goals as goal

pub returns : goal.returns
returns c = record {
  check = check_answers;
  run = run_answers (read_once c.one_reading.ensures.tables c.one_reading-2.ensures c.one_reading.ensures.inputs);
  recheck = recheck_answers;
}
