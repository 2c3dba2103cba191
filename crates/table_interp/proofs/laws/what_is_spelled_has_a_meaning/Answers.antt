use Rattle.table_interp.proofs.Facts.{interprets}
use Rattle.entry_names.proofs.NeededNames.{cells_within}
use Rattle.table_interp.proofs.Loops.{are_loop}
use Rattle.table_syntax.proofs.Readings.{has_value, has_cycle}
use Rattle.table_interp.proofs.laws.what_is_spelled_has_a_meaning.Goals as goal

pub returns-clause-tables : goal.returns-clause-tables
returns-clause-tables c = λ text names cells interpretation are spelled.
    interprets names cells spelled.given (cells_within names cells are) spelled.gives.in_range interpretation spelled.gives
    (has_value text spelled.given spelled.read.read) spelled.read.few_values are

pub returns-clause-inputs : goal.returns-clause-inputs
returns-clause-inputs c = λ text names inputs domain rows spelled.
    are_loop names inputs spelled.given domain rows (has_cycle text spelled.given spelled.read) spelled.gives
