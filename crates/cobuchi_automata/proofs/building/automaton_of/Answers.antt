use Rattle.std.proofs.Common.{◌≡◌, ◌∙◌, ◌≤◌, All, length, sym, subst, arith}
use Rattle.std.proofs.lemmas.List.{length-map}
use Rattle.ltl_formula.specs.LtlTree.{ltl_tree}
use Rattle.obligations.specs.Numbers.{lent_trees}
use Rattle.cobuchi_automata.specs.Automata.{IsAutomaton}
use Rattle.cobuchi_automata.specs.Edges.{edge_trees, IsBetween}
use Rattle.cobuchi_automata.specs.internal.Exploring.{state_key, state_keys}
use Rattle.cobuchi_automata.proofs.BuiltLemmas.{built, has_start, between}
use Rattle.cobuchi_automata.proofs.building.automaton_of.Goals as goal

pub invariant_of-result : goal.invariant_of-result
invariant_of-result c =
    let edges : c.from_vec.result ≡ c.args.found.now.edges.keys =
    c.from_vec.ensures ∙ c.in_ok-edges.ensures.items_if_clones_equal (λ x y e. e) ∙ c.as_slice.ensures.keys in
    let count : length (state_keys c.args.found.now.states.keys) ≡ c.len-states.result =
    length-map c.args.found.now.states.keys state_key ∙ sym c.len-states.ensures.len in
    record {
      starts = subst (λ n. 1 ≤ n) count
          (has_start (ltl_tree c.args.plan.now.formula.now) (lent_trees c.args.plan.now.names.items) c.args.plan.now.untils.items
          (length c.args.found.now.states.keys) (state_keys c.args.found.now.states.keys) (edge_trees c.args.found.now.edges.keys)
          c.requires.found.explored);
      between = subst (All (IsBetween c.len-states.result)) (sym edges)
          (subst (λ n. All (IsBetween n) c.args.found.now.edges.keys) count
          (between (ltl_tree c.args.plan.now.formula.now) (lent_trees c.args.plan.now.names.items) c.args.plan.now.untils.items
          (length c.args.found.now.states.keys) (state_keys c.args.found.now.states.keys) c.args.found.now.edges.keys
          c.requires.found.explored));
    }

pub returns-clause-automaton : goal.returns-clause-automaton
returns-clause-automaton c =
    let edges : c.from_vec.result ≡ c.args.found.now.edges.keys =
    c.from_vec.ensures ∙ c.in_ok-edges.ensures.items_if_clones_equal (λ x y e. e) ∙ c.as_slice.ensures.keys in
    let all = built (ltl_tree c.args.plan.now.formula.now) (lent_trees c.args.plan.now.names.items) c.args.plan.now.untils.items
    (length c.args.found.now.states.keys) (state_keys c.args.found.now.states.keys) (edge_trees c.args.found.now.edges.keys) c.requires.plan
    c.requires.found.explored (omega (arith, length-map c.args.found.now.states.keys state_key)) in (
      all.0,
      all.1 ∙ length-map c.args.found.now.states.keys state_key ∙ sym c.len-states.ensures.len,
      subst (λ es. IsAutomaton (ltl_tree c.args.plan.now.formula.now) all.0 (edge_trees es)) (sym edges) all.2,
    )
