-- What is written and what is left make the whole.
use Rattle.std.proofs.Common.{◌≡◌, ◌++◌, drop, map}
use Rattle.std.specs.List.{AllWithin}
use Rattle.clause_core.specs.Clauses.{IsIncreasing}
use Rattle.tsl_text.specs.Written.{text_of_lines}
use Rattle.refutation_text.specs.Written.{step_line, log_text}
use Rattle.refutation_text.proofs.output.put_log.Given as goal

abbrev pub invariant-loop-step : goal.invariant-loop-step
invariant-loop-step l = record {
  increasing : AllWithin (λ step. IsIncreasing step.clause) l.log.steps 0 l.step-index;
  written : l.out.items ++ text_of_lines (map step_line (drop l.step-index l.log.steps)) ≡ l.fn.out.items ++ log_text l.log.steps;
}
