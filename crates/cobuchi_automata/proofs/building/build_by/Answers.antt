use Rattle.obligations.specs.Numbers.{lent_trees}
use Rattle.cobuchi_automata.proofs.building.build_by.Goals as goal

pub explore-requires-clause-known : goal.explore-requires-clause-known
explore-requires-clause-known c = c.none_known-known.ensures (lent_trees c.args.plan.now.names.items)
