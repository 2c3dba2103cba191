use Rattle.tsl_reader.proofs.WrittenClashes.{kinds_told, arities_told, none_redefines, none_on_cycle, none_too_deep}
use Rattle.tsl_reader.proofs.laws.clashes_are_those_of_written_uses.Goals as goal

pub returns-clause-kind : goal.returns-clause-kind
returns-clause-kind c = kinds_told

pub returns-clause-arity : goal.returns-clause-arity
returns-clause-arity c = arities_told

pub returns-clause-defined : goal.returns-clause-defined
returns-clause-defined c = none_redefines

pub returns-clause-cycle : goal.returns-clause-cycle
returns-clause-cycle c = none_on_cycle

pub returns-clause-deep_use : goal.returns-clause-deep_use
returns-clause-deep_use c = none_too_deep
