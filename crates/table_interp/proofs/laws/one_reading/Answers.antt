use Rattle.table_interp.proofs.OneReading.{one_tables, one_inputs}
use Rattle.table_interp.proofs.laws.one_reading.Goals as goal

pub returns-clause-tables : goal.returns-clause-tables
returns-clause-tables c = one_tables

pub returns-clause-inputs : goal.returns-clause-inputs
returns-clause-inputs c = one_inputs
