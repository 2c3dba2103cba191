-- The clauses that the questions for a controller and for an environment share: a machine of one side that goes on in rows.
-- Source: Finkbeiner, Schewe: Bounded Synthesis (STTT 2013), annotations as constraints.
use Rattle.std.specs.Prelude.{ℕ, ◌+◌, ◌^◌, ◌<◌, ◌≤◌, nat_le, not, cond, List, [], ◌∷◌, ◌++◌, map, filter}
use Rattle.std.specs.List.{flat_map, AllByRecursion}
use Rattle.clause_core.specs.Literals.{Lit}
use Rattle.ltl_formula.specs.Cubes.{has_bit}
use Rattle.cobuchi_automata.specs.Automata.{EdgeTree}
use Rattle.annotation_check.specs.Annotations.{after_edge}
use Rattle.bounded_encoding.specs.Question.{JoinsStates}
use Rattle.bounded_encoding.specs.ClauseLists.{below, each}
use Rattle.bounded_encoding.specs.SimpleClauses.{yes_at, no_at}
use Rattle.bounded_encoding.specs.Grids.{one_in_each, falling_in_each}
use Rattle.bounded_encoding.specs.Frames.{FrameTree, next_at, number_at, variables_of, next_grid, number_grid}

-- A side: its frame, the rows that meet what an edge asks of them, and the index of its first own variable in a state and a row.
pub record SideTree : Type 0 where
  pub frame : FrameTree
  pub met : EdgeTree → List ℕ
  pub base : ℕ → ℕ → ℕ

-- The literals that are true where bits from a first one on are not as an edge asks: one for each that it asks for, where their
-- variables begin at an index.
abbrev pub differing : ℕ → ℕ → ℕ → EdgeTree → List Lit
differing base first bits e =
    map (λ b. record { index = base + b; positive = not (has_bit (first + b) e.want) }) (filter (λ b. has_bit (first + b) e.care) (below bits))

-- the literal of a pair whose number is at least this one; there is none above the bound
abbrev pub numbered : FrameTree → ℕ → ℕ → ℕ → List Lit
numbered f t p n = cond (nat_le n f.bound) (yes_at (number_at f t p n) ∷ []) []

-- From a numbered pair, in a row and along an edge that the letter matches, the next pair is numbered as the edge asks. Literals
-- that are true where the letter does not match are given.
abbrev pub clause_along : FrameTree → List Lit → ℕ → EdgeTree → ℕ → ℕ → ℕ → List Lit
clause_along f unless s e r t i =
    no_at (number_at f s e.from i) ∷ no_at (next_at f s r t) ∷ (unless ++ numbered f t e.to (after_edge i e))

abbrev pub clauses_to : FrameTree → List Lit → ℕ → EdgeTree → ℕ → ℕ → List (List Lit)
clauses_to f unless s e r t = each 0 (f.bound + 1) (λ i. clause_along f unless s e r t i ∷ [])

abbrev pub clauses_from : FrameTree → List Lit → ℕ → EdgeTree → ℕ → List (List Lit)
clauses_from f unless s e r = each 0 f.states (clauses_to f unless s e r)

-- the same for each row that meets an edge, each edge and each state
abbrev pub clauses_under : SideTree → ℕ → EdgeTree → ℕ → List (List Lit)
clauses_under z s e r = clauses_from z.frame (differing (z.base s r) z.frame.first_bit z.frame.bits e) s e r

abbrev pub clauses_along : SideTree → ℕ → EdgeTree → List (List Lit)
clauses_along z s e = flat_map (clauses_under z s e) (z.met e)

abbrev pub clauses_in : SideTree → ℕ → List (List Lit)
clauses_in z s = flat_map (clauses_along z s) z.frame.edges

abbrev pub clauses_of_edges : SideTree → List (List Lit)
clauses_of_edges z = each 0 z.frame.states (clauses_in z)

-- each state has one next state in each row
abbrev pub clauses_of_nexts : FrameTree → List (List Lit)
clauses_of_nexts f = one_in_each (next_grid f)

-- the pair of both starts is numbered
abbrev pub clauses_of_start : FrameTree → List (List Lit)
clauses_of_start f = (yes_at (number_at f 0 0 0) ∷ []) ∷ []

-- a pair whose number is at least i has one of at least i - 1
abbrev pub clauses_of_numbers : FrameTree → List (List Lit)
clauses_of_numbers f = falling_in_each (number_grid f) f.bound

abbrev pub clauses_of_side : SideTree → List (List Lit)
clauses_of_side z =
    clauses_of_nexts z.frame ++ (clauses_of_start z.frame ++ (clauses_of_numbers z.frame ++ clauses_of_edges z))

-- What holds of each side: there are states, edges are between states, rows that meet an edge are rows, and what the machine does
-- in a state and a row has variables.
pub record IsSide (z : SideTree) : Type 0 where
  pub has_state : 1 ≤ z.frame.states
  pub automaton_starts : 1 ≤ z.frame.automaton_states
  pub between : AllByRecursion (JoinsStates z.frame.automaton_states) z.frame.edges
  pub met : (e : EdgeTree) → AllByRecursion (λ r. r < z.frame.rows) (z.met e)
  pub base : (s r : ℕ) → s < z.frame.states → r < z.frame.rows → z.base s r + z.frame.bits ≤ z.frame.own
