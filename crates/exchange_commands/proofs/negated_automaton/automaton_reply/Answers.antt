use Rattle.std.proofs.Common.{◌≤◌, length, sym, subst, ◌∙◌, IsTrue, arith}
use Rattle.std.proofs.lemmas.List.{length-map}
use Rattle.letter_space.specs.declared.limits.TheConstants.{MOST_PREDICATES, MOST_BITS}
use Rattle.tsl_terms.specs.SpecView.{spec_tree}
use Rattle.letter_space.specs.SpaceTree.{SpaceTree, bit_count}
use Rattle.cobuchi_automata.specs.Edges.{edge_tree, edge_trees}
use Rattle.automaton_text.specs.BitNames.{bit_names}
use Rattle.environment_text.specs.EnvironmentText.{space_is_held}
use Rattle.automaton_text.specs.HoaText.{hoa_text}
use Rattle.command_faults.proofs.HeldSpaces.{space_held}
use Rattle.exchange_commands.proofs.negated_automaton.automaton_reply.Goals as goal

pub write_automaton-requires : goal.write_automaton-requires
write_automaton-requires c = record {
  held = subst (λ (s : SpaceTree). IsTrue (space_is_held c.args.spec.now.names s)) (sym c.requires.space)
      (space_held (spec_tree c.args.spec.now) c.requires.fits);
}

pub returns : goal.returns
returns c =
    let made = c.requires.automaton in
    let edges = edge_trees c.args.negation.now.automaton.edges in
    record {
      status = c.new.ensures.status;
      written = record {
        few_bits = record {
          few_predicates = subst (λ (s : SpaceTree). length s.predicates ≤ MOST_PREDICATES) c.requires.space
              c.args.negation.now.space.is_space.few_predicates;
          few_bits = subst (λ (s : SpaceTree). bit_count s ≤ MOST_BITS) c.requires.space c.args.negation.now.space.is_space.few_bits;
        };
        few_states = omega (arith, made.1, c.requires.few_states);
        few_edges = omega (arith, length-map c.args.negation.now.automaton.edges edge_tree, c.requires.few_edges);
        states = made.0;
        edges = edges;
        is_automaton = made.2;
        text_is = c.new.ensures.text ∙ c.in_ok-text.ensures
            ∙ (λ i. hoa_text (bit_names c.args.spec.now.names (c.requires.space i)) (sym made.1 i) edges);
      };
    }
