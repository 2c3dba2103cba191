use Rattle.std.proofs.Common.{refl}
use Rattle.tsl_tool.proofs.laws.limits_are_these.Goals as goal

pub returns : goal.returns
returns c = record {
  specification_bytes = λ sizes. refl;
  question_bytes = λ sizes. refl;
  check_bytes = λ bound. refl;
  run_bytes = refl;
  log_bytes = refl;
  circuit_bytes = λ bound. refl;
  automaton_bytes = refl;
  accepts_bytes = refl;
  no_bytes = λ n. refl;
  levels = refl;
  formula_nodes = refl;
  brackets = refl;
  window_length = refl;
  windows = refl;
  program_nodes = refl;
  program_states = refl;
  predicates = refl;
  bits = refl;
  bits_of_letters = refl;
  choices = refl;
  automaton_states = refl;
  automaton_edges = refl;
  vectors = refl;
  branches = refl;
  values = refl;
  entries = refl;
  word_bits = refl;
  rows = refl;
  configurations = refl;
  digits = refl;
  variables = refl;
  clauses = refl;
}
