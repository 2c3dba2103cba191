use Rattle.std.proofs.Common.{length}
use Rattle.tsl_terms.specs.Signals.{is_input, is_cell, is_output}
use Rattle.tsl_terms.proofs.SignalFacts.{distinct_signals, numbers_rise, whole_reads, whole_updates}
use Rattle.tsl_terms.proofs.laws.signals_are_told_apart.Goals as goal

pub returns-clause-distinct : goal.returns-clause-distinct
returns-clause-distinct c = distinct_signals

pub returns-clause-order : goal.returns-clause-order
returns-clause-order c = λ spec. (
  numbers_rise (is_input spec) 0 (length spec.names),
  numbers_rise (is_cell spec) 0 (length spec.names),
  numbers_rise (is_output spec) 0 (length spec.names),
)

pub returns-clause-read : goal.returns-clause-read
returns-clause-read c = whole_reads

pub returns-clause-updated : goal.returns-clause-updated
returns-clause-updated c = whole_updates
