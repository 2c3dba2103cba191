use Rattle.std.proofs.Common.{◌≡◌, ◌+◌, ◌*◌, ◌<◌, ◌≤◌, ℕ, length}
use Rattle.clause_learning.specs.Tournaments.{rank_at, IsWon}
use Rattle.clause_learning.proofs.tournament.Tournament.play_all.Given as goal

abbrev pub invariant-loop-node : goal.invariant-loop-node
invariant-loop-node l = record {
  leaves : l.self.leaves ≡ l.fn.self.leaves;
  size : length l.self.nodes.items ≡ 2 * l.self.leaves;
  ranks : (leaf : ℕ) → rank_at l.self.nodes.items (l.self.leaves + leaf) ≡ rank_at l.fn.self.nodes.items (l.fn.self.leaves + leaf);
  low : 0 < l.node;
  within : l.node ≤ l.self.leaves;
  won : (k : ℕ) → l.node ≤ k → k < l.self.leaves → IsWon l.self.nodes.items k;
}

abbrev pub decreases-loop-node : goal.decreases-loop-node
decreases-loop-node l = l.node
