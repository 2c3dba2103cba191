use Rattle.definition_expansion.specs.Reaching.{Using}
use Rattle.definition_expansion.proofs.Cycles.{some_cycle, ranked_has_no_cycle}
use Rattle.definition_expansion.proofs.laws.cycles_are_there.Goals as goal

pub returns-clause-some : goal.returns-clause-some
returns-clause-some c names uses x = some_cycle names (Using uses) x

pub returns-clause-none : goal.returns-clause-none
returns-clause-none c uses = ranked_has_no_cycle (Using uses)
