-- What is found, where each state is expanded, is the automaton.
use Rattle.std.proofs.Common.{◌≡◌, ◌∙◌, ℕ, ◌≤◌, List, length, Some, All, slice_get, slice_index_or, ap, arith}
use Rattle.std.specs.Prelude.{option_map}
use Rattle.std.proofs.lemmas.List.{length-map}
use Rattle.std.proofs.lemmas.Option.{slice_get-map, slice_get-get_or, slice_get_within}
use Rattle.base_library.proofs.Each.{each_at}
use Rattle.ltl_formula.specs.LtlTree.{LtlTree}
use Rattle.cobuchi_automata.specs.declared.automaton.Edge.{Edge}
use Rattle.cobuchi_automata.specs.Automata.{StateTree, EdgeTree, untils_of, start_state, state_after, IsOfChoice, IsAutomaton}
use Rattle.cobuchi_automata.specs.Edges.{edge_tree, edge_trees, IsBetween}
use Rattle.cobuchi_automata.specs.internal.Exploring.{StateKey, state_named, states_named, IsPlan, IsExplored}
use Rattle.cobuchi_automata.proofs.ExploredLemmas.{finished}

module _ (f : LtlTree) (names : List LtlTree) (untils : List ℕ) (n : ℕ) (keys : List StateKey) where
  pub built : (edges : List EdgeTree) → IsPlan f names untils → IsExplored f names untils n keys edges → length keys ≤ n
      → (states : List StateTree) × (length states ≡ length keys) × IsAutomaton f states edges
  built edges plan x all = (states_named names keys, length-map keys (state_named names), finished f names untils plan n keys edges all x)

  pub has_start : (edges : List EdgeTree) → IsExplored f names untils n keys edges → 1 ≤ length keys
  has_start edges x = omega (
    arith,
    slice_get_within (states_named names keys) 0 (start_state f) x.start,
    length-map keys (state_named names),
  )

  -- edges are between states that are found
  pub between : (edges : List Edge) → IsExplored f names untils n keys (edge_trees edges) → All (IsBetween (length keys)) edges
  between edges x i d within =
      let e : Edge = slice_index_or edges i d in
      let at : slice_get (edge_trees edges) i ≡ Some (edge_tree e) =
      slice_get-map edge_tree edges i ∙ ap (option_map edge_tree) (slice_get-get_or edges i d within) in
      let o = each_at (IsOfChoice (untils_of f) (states_named names keys)) (edge_trees edges) i (edge_tree e) x.of_choices at in (
        omega (arith, slice_get_within (states_named names keys) e.from o.state o.here, length-map keys (state_named names)),
        omega (
          arith,
          slice_get_within (states_named names keys) e.to (state_after (untils_of f) o.state o.choice) o.there,
          length-map keys (state_named names),
        ),
      )
