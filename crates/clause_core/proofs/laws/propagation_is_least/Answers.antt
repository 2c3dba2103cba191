use Rattle.clause_core.proofs.Semantics.{reached_within, none_false_within}
use Rattle.clause_core.proofs.laws.propagation_is_least.Goals as goal

pub returns-clause-within : goal.returns-clause-within
returns-clause-within c = λ clauses start trues quiet r more q. reached_within clauses start trues quiet r more q

pub returns-clause-none_false : goal.returns-clause-none_false
returns-clause-none_false c = λ clauses start trues quiet r more q. none_false_within clauses trues quiet
    (reached_within clauses start trues quiet r more q) q
