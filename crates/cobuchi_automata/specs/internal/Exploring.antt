-- Internal: only private functions of this crate use these words. States over the numbers of formulas, and what a choice adds to
-- the states and edges that are found.
use Rattle.std.specs.Prelude.{◌≡◌, ℕ, suc, ◌<◌, ◌≤◌, Bool, false, ⊤, ◌⊎◌, List, [], ◌∷◌, ◌++◌, Some, map, length, slice_get, nat_eq}
use Rattle.std.specs.List.{list_any, AllByRecursion}
use Rattle.std.specs.Option.{option_map_or}
use Rattle.ltl_formula.specs.LtlTree.{LtlTree, ltl_tree}
use Rattle.obligations.specs.Expansion.{ChoiceTree, choices}
use Rattle.obligations.specs.Numbers.{ChoiceKey, formula_number, lent_trees}
use Rattle.obligations.specs.Named.{formula_named}
use Rattle.obligations.specs.Obligations.{closure_of}
use Rattle.cobuchi_automata.specs.declared.build_error.BuildError.{BuildError}
use Rattle.cobuchi_automata.specs.declared.build_error.BuildError.TheVariants as builds
use Rattle.cobuchi_automata.specs.declared.exploring.Found.{Found}
use Rattle.cobuchi_automata.specs.declared.exploring.Plan.{Plan}
use Rattle.cobuchi_automata.specs.declared.states.State.{State}
use Rattle.cobuchi_automata.specs.Edges.{edge_trees}
use Rattle.cobuchi_automata.specs.Counters.{passes_last, advanced}
use Rattle.cobuchi_automata.specs.Automata.{StateTree, EdgeTree, untils_of, start_state, IsReached, Leads, IsOfChoice}
use Rattle.cobuchi_automata.specs.Refusals.{most_automaton_states, most_automaton_edges}
use Rattle.base_library.specs.Once.{StandOnce}

-- a state over numbers
pub record StateKey : Type 0 where
  pub members : List ℕ
  pub counter : ℕ

abbrev pub state_key : State → StateKey
state_key s = record { members = s.members.items; counter = s.counter }

abbrev pub state_keys : List State → List StateKey
state_keys ss = map state_key ss

-- the state of the formulas with these numbers
abbrev pub state_named : List LtlTree → StateKey → StateTree
state_named names k = record { set = map (formula_named names) k.members; counter = k.counter }

abbrev pub states_named : List LtlTree → List StateKey → List StateTree
states_named names ks = map (state_named names) ks

-- whether the until at a place of the list of their numbers is among those that are put off
abbrev pub is_put_off : List ℕ → List ℕ → ℕ → Bool
is_put_off untils postponed n = option_map_or (λ u. list_any (λ v. nat_eq u v) postponed) (slice_get untils n) false

-- where a choice leads, over numbers
abbrev pub key_after : List ℕ → ℕ → ChoiceKey → StateKey
key_after untils counter c = record {
  members = c.next_set;
  counter = advanced (length untils) (is_put_off untils c.postponed) counter;
}

-- and along which edge
abbrev pub key_edge : List ℕ → ℕ → ℕ → ChoiceKey → ℕ → EdgeTree
key_edge untils from counter c to = record {
  from = from;
  care = c.care;
  want = c.want;
  to = to;
  rejecting = passes_last (length untils) (is_put_off untils c.postponed) counter;
}

-- a list with one more member at its end, unless it is there
pub record Grows {A : Type 0} (old : List A) (x : A) (new : List A) : Type 0 where
  pub grown : (new ≡ old) ⊎ (((i : ℕ) → slice_get old i ≡ Some x → ⊥) × (new ≡ old ++ x ∷ []))
  pub there : (i : ℕ) × (slice_get new i ≡ Some x)

-- states and edges with those of a choice
pub record Takes (untils : List ℕ) (from counter : ℕ) (c : ChoiceKey) (old_states : List StateKey) (old_edges : List EdgeTree)
    (new_states : List StateKey) (new_edges : List EdgeTree) : Type 0 where
  pub to : ℕ
  pub states : Grows old_states (key_after untils counter c) new_states
  pub leads : slice_get new_states to ≡ Some (key_after untils counter c)
  pub edges : Grows old_edges (key_edge untils from counter c to) new_edges

-- why a state is not taken, and why an edge is not
abbrev pub IsStateRefusal : List StateKey → StateKey → List StateKey → BuildError → Type 0
IsStateRefusal old k new builds.Choices = ⊥
IsStateRefusal old k new builds.States = Grows old k new × (length new ≡ suc most_automaton_states)
IsStateRefusal old k new builds.Edges = ⊥
IsStateRefusal old k new builds.NoMemory = ⊤

abbrev pub IsEdgeRefusal : List EdgeTree → EdgeTree → List EdgeTree → BuildError → Type 0
IsEdgeRefusal old e new builds.Choices = ⊥
IsEdgeRefusal old e new builds.States = ⊥
IsEdgeRefusal old e new builds.Edges = Grows old e new × (length new ≡ suc most_automaton_edges)
IsEdgeRefusal old e new builds.NoMemory = ⊤

-- why a choice is not taken
abbrev pub IsChoiceRefusal : List ℕ → ℕ → ℕ → ChoiceKey → List StateKey → List EdgeTree → List StateKey → List EdgeTree
    → BuildError → Type 0
IsChoiceRefusal untils from counter c states edges new_states new_edges builds.Choices = ⊥
IsChoiceRefusal untils from counter c states edges new_states new_edges builds.States =
    Grows states (key_after untils counter c) new_states × (length new_states ≡ suc most_automaton_states)
IsChoiceRefusal untils from counter c states edges new_states new_edges builds.Edges =
    Takes untils from counter c states edges new_states new_edges × (length new_edges ≡ suc most_automaton_edges)
IsChoiceRefusal untils from counter c states edges new_states new_edges builds.NoMemory = ⊤

-- the numbers of a formula: those of what its steps may leave, and those of its untils
pub record IsPlan (f : LtlTree) (names : List LtlTree) (untils : List ℕ) : Type 0 where
  pub named : names ≡ closure_of (f ∷ [])
  pub numbered : untils ≡ map (formula_number names) (untils_of f)

-- a state over numbers that formulas and untils have
pub record IsStateKey (names : List LtlTree) (untils : List ℕ) (k : StateKey) : Type 0 where
  pub members_named : AllByRecursion (λ n. n < length names) k.members
  pub counts : k.counter ≤ length untils

-- The states and edges that are found, where so many states are expanded: each choice of those leads along an edge.
pub record IsExplored (f : LtlTree) (names : List LtlTree) (untils : List ℕ) (expanded : ℕ) (keys : List StateKey) (edges : List EdgeTree)
    : Type 0 where
  pub named : AllByRecursion (IsStateKey names untils) keys
  pub within : expanded ≤ length keys
  pub start : slice_get (states_named names keys) 0 ≡ Some (start_state f)
  pub reached : AllByRecursion (IsReached f) (states_named names keys)
  pub once : StandOnce (states_named names keys)
  pub leads : (i : ℕ) (s : StateTree) → i < expanded → slice_get (states_named names keys) i ≡ Some s
      → (cs : List ChoiceTree) × (choices s.set ≡ Some cs)
      × AllByRecursion (Leads (untils_of f) (states_named names keys) edges i s) cs
  pub of_choices : AllByRecursion (IsOfChoice (untils_of f) (states_named names keys)) edges
  pub edges_once : StandOnce edges

-- the same of a plan and of what is found as they lie in memory
abbrev pub IsPlanInMemory : Plan → Type 0
IsPlanInMemory plan = IsPlan (ltl_tree plan.formula.now) (lent_trees plan.names.items) plan.untils.items

pub record IsFoundSoFar (plan : Plan) (expanded : ℕ) (found : Found) : Type 0 where
  pub explored : IsExplored (ltl_tree plan.formula.now) (lent_trees plan.names.items) plan.untils.items expanded
      (state_keys found.states.keys) (edge_trees found.edges.keys)
  pub few_states : length found.states.keys ≤ most_automaton_states
  pub few_edges : length found.edges.keys ≤ most_automaton_edges
