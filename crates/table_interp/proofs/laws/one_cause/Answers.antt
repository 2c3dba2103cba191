use Rattle.table_interp.proofs.OneTableCause.{one_table_cause, tables_refused}
use Rattle.table_interp.proofs.OneInputCause.{one_input_cause, inputs_refused}
use Rattle.table_interp.proofs.laws.one_cause.Goals as goal

pub returns-clause-tables : goal.returns-clause-tables
returns-clause-tables c = one_table_cause

pub returns-clause-no_tables : goal.returns-clause-no_tables
returns-clause-no_tables c = tables_refused

pub returns-clause-inputs : goal.returns-clause-inputs
returns-clause-inputs c = one_input_cause

pub returns-clause-no_inputs : goal.returns-clause-no_inputs
returns-clause-no_inputs c = inputs_refused
