use Rattle.std.proofs.Common.{◌≡◌, ◌+◌, ◌*◌, ◌/◌, ◌<◌, ◌==◌, ℕ, length, cond}
use Rattle.clause_learning.specs.Tournaments.{rank_at}
use Rattle.clause_learning.proofs.Rounds.{AreWonBut}
use Rattle.clause_learning.proofs.tournament.Tournament.set.Given as goal

abbrev pub invariant-loop-node : goal.invariant-loop-node
invariant-loop-node l = record {
  leaves : l.self.leaves ≡ l.fn.self.leaves;
  size : length l.self.nodes.items ≡ 2 * l.self.leaves;
  ranks : (leaf : ℕ) → rank_at l.self.nodes.items (l.self.leaves + leaf)
      ≡ cond (leaf == l.variable) (record { activity = l.activity; variable = l.variable }) (rank_at l.fn.self.nodes.items (l.fn.self.leaves + leaf));
  low : 0 < l.node;
  within : l.node < 2 * l.self.leaves;
  won : AreWonBut (l.node / 2) l.self.leaves l.self.nodes.items;
}

abbrev pub decreases-loop-node : goal.decreases-loop-node
decreases-loop-node l = l.node
