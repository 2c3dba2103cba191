use Rattle.checking_commands.proofs.RunFaultLaws.{table_cause_stands}
use Rattle.checking_commands.proofs.RunLaws.{read_means}
use Rattle.checking_commands.proofs.meaning.read_as_tables.Goals as goal

pub fault_of_tables-requires-clause-stands : goal.fault_of_tables-requires-clause-stands
fault_of_tables-requires-clause-stands c =
    table_cause_stands c.args.text.now c.args.names.now c.args.cells.now c.in-Err.error c.requires.cells c.in-Err.ensures.cause

pub returns-in-Ok-clause-means : goal.returns-in-Ok-clause-means
returns-in-Ok-clause-means c =
    read_means c.args.names.now c.in-Ok.tables.equality c.args.cells.now c.in-Ok.tables.cells c.in-Ok.tables.interpretation
    c.in-Ok.ensures.equality c.in-Ok.ensures.cells
