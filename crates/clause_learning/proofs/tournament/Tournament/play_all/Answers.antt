use Rattle.std.proofs.Common.{ℕ, ◌-◌, ◌+◌, ◌∙◌, ap, arith}
use Rattle.clause_learning.specs.declared.tournament.Rank.{Rank}
use Rattle.clause_learning.specs.Tournaments.{rank_at}
use Rattle.clause_learning.proofs.Rounds.{replayed}
use Rattle.clause_learning.proofs.tournament.Tournament.play_all.Goals as goal

pub loop-node-preserved : goal.loop-node-preserved
loop-node-preserved c =
    let i = c.loop-node.invariant in
    let node = c.loop-node.node - 1 in
    let p = c.play.ensures in
    record {
      leaves = p.leaves ∙ i.leaves;
      size = omega (arith, p.leaves, p.size, i.size);
      ranks = λ leaf. (let here = p.leaves in ap (λ (n : ℕ). rank_at c.play.new.self.nodes.items (n + leaf)) here)
          ∙ (p.others (c.loop-node.self.leaves + leaf) (λ s. omega (arith, s, i.within, c.loop-node-test.true)) ∙ i.ranks leaf);
      low = omega (arith, c.loop-node-test.true);
      within = omega (arith, i.within, p.leaves);
      won = λ k from inner. replayed c.loop-node.self.nodes.items c.play.new.self.nodes.items node (omega (arith, c.loop-node-test.true)) p.others
          p.won k (λ s. omega (arith, s, from, c.loop-node-test.true)) (λ s. omega (arith, s, from, c.loop-node-test.true))
          (λ other. i.won k (omega (arith, from, other)) (omega (arith, inner, p.leaves)));
    }

pub returns-clause-tournament : goal.returns-clause-tournament
returns-clause-tournament c =
    let i = c.loop-node.invariant in
    record {
      last_half = record {
        some = omega (arith, i.leaves, c.requires.some);
        few = omega (arith, i.leaves, c.requires.few);
        size = i.size;
        named = λ leaf below. ap (λ (r : Rank). r.variable) (i.ranks leaf) ∙ c.requires.named leaf (omega (arith, i.leaves, below));
      };
      won = λ k some inner. i.won k (omega (arith, some, c.loop-node-test.false)) inner;
    }

pub returns-clause-weights : goal.returns-clause-weights
returns-clause-weights c = λ v. ap (λ (r : Rank). r.activity) (c.loop-node.invariant.ranks v)
