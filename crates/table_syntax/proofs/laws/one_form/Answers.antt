use Rattle.table_syntax.proofs.Readings.{same_tables, same_words, same_inputs}
use Rattle.table_syntax.proofs.laws.one_form.Goals as goal

pub returns-clause-tables : goal.returns-clause-tables
returns-clause-tables c = same_tables

pub returns-clause-words : goal.returns-clause-words
returns-clause-words c = same_words

pub returns-clause-inputs : goal.returns-clause-inputs
returns-clause-inputs c = same_inputs
