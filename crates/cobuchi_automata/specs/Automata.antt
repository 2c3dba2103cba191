-- The automaton of a formula: states are sets of formulas with a counter, and each choice of a set is an edge.
-- Source: Gerth, Peled, Vardi, Wolper: Simple On-the-fly Automatic Verification of Linear Temporal Logic (PSTV 1995),
-- automata from sets of obligations; Schewe, Finkbeiner: Bounded Synthesis (ATVA 2007), universal co-Büchi automata.
-- Here rejecting marks stand on edges.
use Rattle.std.specs.Prelude.{◌≡◌, ℕ, Bool, false, List, [], ◌∷◌, ◌++◌, length, Some, slice_get, Contains}
use Rattle.std.specs.List.{list_any, AllByRecursion}
use Rattle.std.specs.Option.{option_map_or}
use Rattle.base_library.specs.Kept.{with_new}
use Rattle.ltl_formula.specs.LtlTree.{LtlTree, LtlTrees, top, bottom, bit, not_bit, conjunction, disjunction, next, until, release}
use Rattle.ltl_formula.specs.LtlTree.{no_formulas, more_formulas}
use Rattle.obligations.specs.Expansion.{ChoiceTree, same_formula, choices}
use Rattle.cobuchi_automata.specs.Counters.{passes_last, advanced}

-- the untils in a formula from the left, outer ones first
abbrev mutual
  pub untils_in : LtlTree → List LtlTree
  untils_in top = []
  untils_in bottom = []
  untils_in (bit b) = []
  untils_in (not_bit b) = []
  untils_in (conjunction fs) = untils_in_all fs
  untils_in (disjunction fs) = untils_in_all fs
  untils_in (next a) = untils_in a
  untils_in (until a b) = until a b ∷ (untils_in a ++ untils_in b)
  untils_in (release a b) = untils_in a ++ untils_in b

  pub untils_in_all : LtlTrees → List LtlTree
  untils_in_all no_formulas = []
  untils_in_all (more_formulas f fs) = untils_in f ++ untils_in_all fs

-- the untils of a formula, each once, in the order in which they first appear
abbrev pub untils_of : LtlTree → List LtlTree
untils_of f = with_new same_formula [] (untils_in f)

-- a set of formulas, and the number of the until that is waited for
pub record StateTree : Type 0 where
  pub set : List LtlTree
  pub counter : ℕ

-- an edge between the states with two numbers: what it asks of the letter, and whether it is rejecting
pub record EdgeTree : Type 0 where
  pub from : ℕ
  pub care : ℕ
  pub want : ℕ
  pub to : ℕ
  pub rejecting : Bool

-- whether a choice puts off the until with a number
abbrev pub is_postponed : List LtlTree → ChoiceTree → ℕ → Bool
is_postponed untils c n = option_map_or (λ u. list_any (same_formula u) c.postponed) (slice_get untils n) false

-- the state of the formula alone, which waits for the first until
abbrev pub start_state : LtlTree → StateTree
start_state f = record { set = f ∷ []; counter = 0 }

-- where a choice of a state's set leads: to what it leaves, with the counter advanced
abbrev pub state_after : List LtlTree → StateTree → ChoiceTree → StateTree
state_after untils s c = record { set = c.next_set; counter = advanced (length untils) (is_postponed untils c) s.counter }

-- the edge of a choice of a state's set between two numbers: rejecting where the counter passes the last until
abbrev pub edge_of : List LtlTree → ℕ → StateTree → ChoiceTree → ℕ → EdgeTree
edge_of untils from s c to = record {
  from = from;
  care = c.care;
  want = c.want;
  to = to;
  rejecting = passes_last (length untils) (is_postponed untils c) s.counter;
}

-- states that choices lead to from the start
pub data IsReached (f : LtlTree) : StateTree → Type 0 where
  at_start : IsReached f (start_state f)
  by_choice : (s : StateTree) (cs : List ChoiceTree) (c : ChoiceTree) → IsReached f s → choices s.set ≡ Some cs → Contains cs c
      → IsReached f (state_after (untils_of f) s c)

-- a choice leads from the state with a number along an edge
pub record Leads (untils : List LtlTree) (states : List StateTree) (edges : List EdgeTree) (from : ℕ) (s : StateTree)
    (c : ChoiceTree) : Type 0 where
  pub to : ℕ
  pub there : slice_get states to ≡ Some (state_after untils s c)
  pub edge : Contains edges (edge_of untils from s c to)

-- an edge is that of a choice of the state with its first number, and leads where the choice does
pub record IsOfChoice (untils : List LtlTree) (states : List StateTree) (e : EdgeTree) : Type 0 where
  pub state : StateTree
  pub here : slice_get states e.from ≡ Some state
  pub choices_here : List ChoiceTree
  pub are_choices : choices state.set ≡ Some choices_here
  pub choice : ChoiceTree
  pub chosen : Contains choices_here choice
  pub there : slice_get states e.to ≡ Some (state_after untils state choice)
  pub is : e ≡ edge_of untils e.from state choice e.to

-- These numbered states and these edges are the automaton of a formula: the start has number 0, the states are those that are
-- reached, each once, and the edges are those of their choices, each once.
pub record IsAutomaton (f : LtlTree) (states : List StateTree) (edges : List EdgeTree) : Type 0 where
  pub start : slice_get states 0 ≡ Some (start_state f)
  pub reached : AllByRecursion (IsReached f) states
  pub once : (i j : ℕ) (s : StateTree) → slice_get states i ≡ Some s → slice_get states j ≡ Some s → i ≡ j
  pub leads : (i : ℕ) (s : StateTree) → slice_get states i ≡ Some s
      → (cs : List ChoiceTree) × (choices s.set ≡ Some cs) × AllByRecursion (Leads (untils_of f) states edges i s) cs
  pub of_choices : AllByRecursion (IsOfChoice (untils_of f) states) edges
  pub edges_once : (i j : ℕ) (e : EdgeTree) → slice_get edges i ≡ Some e → slice_get edges j ≡ Some e → i ≡ j
