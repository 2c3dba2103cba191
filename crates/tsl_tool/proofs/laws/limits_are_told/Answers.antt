use Rattle.std.proofs.Common.{◌∙◌, ap}
use Rattle.refutation_check.specs.LogText.{log_answer}
use Rattle.checking_commands.specs.Recheck.{parts_reply, log_part}
use Rattle.checking_commands.proofs.OneInput.{read_once}
use Rattle.synthesis_commands.proofs.GenReplies.{gen_is_large}
use Rattle.synthesis_commands.proofs.ProveReplies.{question_is_large}
use Rattle.synthesis_commands.proofs.SynthReplies.{search_is_large}
use Rattle.tsl_tool.proofs.CheckLimits.{check_tells_limits}
use Rattle.tsl_tool.proofs.ExchangesCome.{circuit_tells_limits, automaton_tells_limits, accepts_tells_limits}
use Rattle.tsl_tool.proofs.VerdictsCome.{run_tells_limits, recheck_tells}
use Rattle.tsl_tool.proofs.laws.limits_are_told.Goals as goal

pub returns : goal.returns
returns c = record {
  synth = λ sizes bytes spec reply limit spells large outcome. search_is_large sizes bytes spec spells limit large reply outcome;
  prove = question_is_large;
  generated = gen_is_large;
  check = check_tells_limits;
  circuit = circuit_tells_limits;
  automaton = automaton_tells_limits;
  accepts = accepts_tells_limits;
  run = run_tells_limits (read_once c.one_reading.ensures.tables c.one_reading-2.ensures c.one_reading.ensures.inputs);
  recheck_variables = λ bytes at reply first many outcome.
      recheck_tells bytes at reply first outcome ∙ ap (λ a. parts_reply a (log_answer (log_part bytes at))) many;
  recheck_clauses = λ bytes at reply first many outcome.
      recheck_tells bytes at reply first outcome ∙ ap (λ a. parts_reply a (log_answer (log_part bytes at))) many;
}
