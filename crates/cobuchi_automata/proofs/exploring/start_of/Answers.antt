use Rattle.std.proofs.Common.{◌∙◌, ap, arith, length, [], ◌∷◌}
use Rattle.ltl_formula.specs.LtlTree.{ltl_tree}
use Rattle.obligations.specs.Numbers.{lent_trees}
use Rattle.cobuchi_automata.specs.Edges.{edge_trees}
use Rattle.cobuchi_automata.specs.internal.Exploring.{state_keys}
use Rattle.obligations.proofs.StepLemmas.{rising}
use Rattle.cobuchi_automata.proofs.ExploredLemmas.{started}
use Rattle.cobuchi_automata.proofs.StateLemmas.{length-keys}
use Rattle.cobuchi_automata.proofs.exploring.start_of.Goals as goal

pub returns : goal.returns
returns c =
    let number = rw c.deref.ensures.value at c.number_of.ensures in
    let one = c.in_ok-states.ensures ∙ ap (λ n. record { members = n ∷ []; counter = 0 } ∷ []) number in
    record {
      explored = started (ltl_tree c.args.plan.now.formula.now) (lent_trees c.args.plan.now.names.items) c.args.plan.now.untils.items
          c.requires.plan (state_keys c.in_ok-states.states.keys) (edge_trees c.new-edges.result.keys) one
          (ap edge_trees c.new-edges.ensures.empty);
      few_states = omega (arith, length-keys c.in_ok-states.states.keys 1 (ap length one));
      few_edges = omega (arith, c.new-edges.ensures.len);
    }

pub number_of-requires-clause-rising : goal.number_of-requires-clause-rising
number_of-requires-clause-rising c = rising (ltl_tree c.args.plan.now.formula.now ∷ []) (lent_trees c.deref.result.now)
    (ap lent_trees c.deref.ensures.value ∙ c.requires.plan.named)
