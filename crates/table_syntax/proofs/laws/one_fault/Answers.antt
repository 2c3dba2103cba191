use Rattle.table_syntax.specs.Grammar.{IsTables, IsWords, IsInputs}
use Rattle.table_syntax.proofs.OneFault.{one_fault, fault_refuses}
use Rattle.table_syntax.proofs.laws.one_fault.Goals as goal

pub returns-clause-tables : goal.returns-clause-tables
returns-clause-tables c = one_fault IsTables

pub returns-clause-no_tables : goal.returns-clause-no_tables
returns-clause-no_tables c = fault_refuses IsTables

pub returns-clause-words : goal.returns-clause-words
returns-clause-words c = one_fault IsWords

pub returns-clause-no_words : goal.returns-clause-no_words
returns-clause-no_words c = fault_refuses IsWords

pub returns-clause-inputs : goal.returns-clause-inputs
returns-clause-inputs c = one_fault IsInputs

pub returns-clause-no_inputs : goal.returns-clause-no_inputs
returns-clause-no_inputs c = fault_refuses IsInputs
