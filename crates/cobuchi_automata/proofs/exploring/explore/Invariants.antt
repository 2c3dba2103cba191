use Rattle.std.proofs.Common.{◌-◌}
use Rattle.obligations.specs.Expansions.{AreExpansions}
use Rattle.obligations.specs.Numbers.{lent_trees}
use Rattle.cobuchi_automata.specs.Refusals.{most_automaton_states}
use Rattle.cobuchi_automata.specs.internal.Exploring.{IsFoundSoFar}
use Rattle.cobuchi_automata.specs.internal.Known.{AreKnown}
use Rattle.cobuchi_automata.proofs.exploring.explore.Given as goal

-- so many states are expanded
abbrev pub invariant-loop-expanded : goal.invariant-loop-expanded
invariant-loop-expanded l = record {
  found : IsFoundSoFar l.plan l.expanded l.found;
  expansions : AreExpansions (lent_trees l.plan.names.items) l.expansions;
  known : AreKnown (lent_trees l.plan.names.items) l.known;
}

-- there are not more than there may be
abbrev pub decreases-loop-expanded : goal.decreases-loop-expanded
decreases-loop-expanded l = most_automaton_states - l.expanded
