use Rattle.tsl_reader.proofs.WithoutEquals.{kinds_alone, arities_alone, never_redefined, never_on_cycle, never_too_deep}
use Rattle.tsl_reader.proofs.laws.texts_without_equals_are_refused_by_their_uses.Goals as goal

pub returns-clause-kind : goal.returns-clause-kind
returns-clause-kind c = kinds_alone

pub returns-clause-arity : goal.returns-clause-arity
returns-clause-arity c = arities_alone

pub returns-clause-defined : goal.returns-clause-defined
returns-clause-defined c = never_redefined

pub returns-clause-cycle : goal.returns-clause-cycle
returns-clause-cycle c = never_on_cycle

pub returns-clause-deep_use : goal.returns-clause-deep_use
returns-clause-deep_use c = never_too_deep
