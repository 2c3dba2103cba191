use Rattle.std.proofs.Common.{◌≡◌, ◌+◌, ◌*◌, ◌<◌, ℕ, length}
use Rattle.clause_learning.specs.Tournaments.{rank_at}
use Rattle.clause_learning.proofs.tournament.Tournament.new.Given as goal

abbrev pub invariant-loop-variable : goal.invariant-loop-variable
invariant-loop-variable l = record {
  size : length l.nodes.items ≡ 2 * l.leaves;
  none : (node : ℕ) → (rank_at l.nodes.items node).activity ≡ 0;
  named : (leaf : ℕ) → leaf < l.variable → (rank_at l.nodes.items (l.leaves + leaf)).variable ≡ leaf;
}
