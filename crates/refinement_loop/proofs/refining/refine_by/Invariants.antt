-- The rounds so far are a chain, and no more than may be made.
use Rattle.std.proofs.Common.{◌≤◌, ◌-◌, length, map}
use Rattle.tsl_terms.specs.SpecView.{spec_tree}
use Rattle.machines.specs.MachineView.{round_tree}
use Rattle.refinement_loop.specs.Chains.{IsChain}
use Rattle.refinement_loop.proofs.refining.refine_by.Given as goal

abbrev pub invariant-loop-turned : goal.invariant-loop-turned
invariant-loop-turned l = record {
  chain : IsChain (spec_tree l.spec) l.search (map round_tree l.rounds.items);
  few_rounds : length l.rounds.items ≤ l.search.rounds;
}

abbrev pub decreases-loop-turned : goal.decreases-loop-turned
decreases-loop-turned l = l.search.rounds - length l.rounds.items
