use Rattle.std.proofs.Common.{◌*◌}
use Rattle.cobuchi_automata.specs.Edges.{edge_trees}
use Rattle.counterstrategy.proofs.environment_side.frame_of.Goals as goal

pub returns : goal.returns
returns c =
    let q = c.args.question.now in
    let asked = c.requires.asked in
    λ i. record {
      automaton_states = q.automaton.now.states;
      edges = edge_trees q.automaton.now.edges;
      states = q.states;
      rows = asked.vectors i;
      bound = q.bound;
      own = q.states * asked.tests i;
      first_bit = 0;
      bits = asked.tests i;
    }
