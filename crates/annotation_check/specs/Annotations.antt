-- Annotations: numbers of pairs of a machine's state and an automaton's state, which bound how many rejecting edges a path over
-- letters of the machine passes.
-- Source: Schewe, Finkbeiner: Bounded Synthesis (ATVA 2007). Here rejecting marks stand on edges.
use Rattle.std.specs.Prelude.{◌≡◌, ℕ, ◌+◌, ◌≤◌, true, cond, ◌==◌, List, filter, Option, None, Some, option_and_then, Contains}
use Rattle.ltl_formula.specs.Cubes.{cube_matches}
use Rattle.cobuchi_automata.specs.Automata.{EdgeTree}
use Rattle.machines.specs.MachineTree.{cell_at}
use Rattle.machines.specs.Moves.{MoveTree}

-- the edges that leave a state of an automaton
abbrev pub edges_from : List EdgeTree → ℕ → List EdgeTree
edges_from edges q = filter (λ e. e.from == q) edges

-- there is a number, and it is at least so large
abbrev pub IsAtLeast : ℕ → Option ℕ → Type 0
IsAtLeast n None = ⊥
IsAtLeast n (Some m) = n ≤ m

-- what the pair after an edge has at least: more than the number before, if the edge is rejecting
abbrev pub after_edge : ℕ → EdgeTree → ℕ
after_edge n e = n + cond e.rejecting 1 0

-- Some pairs are numbered, the one of both starts among them. From a numbered pair, for each move of the machine there and each
-- edge there that its letter matches, the next pair is numbered, no less than before, and more if the edge is rejecting.
pub record IsNumbering (edges : ℕ → List EdgeTree) (moves : ℕ → List MoveTree) (number : ℕ → ℕ → Option ℕ) : Type 0 where
  pub start : IsAtLeast 0 (number 0 0)
  pub goes_on : (s q n : ℕ) → number s q ≡ Some n → (m : MoveTree) → Contains (moves s) m → (e : EdgeTree) → Contains (edges q) e
      → cube_matches e.care e.want m.letter ≡ true → IsAtLeast (after_edge n e) (number m.next e.to)

-- an annotation within a bound is such a numbering from 0 to the bound
pub record IsAnnotation (edges : ℕ → List EdgeTree) (moves : ℕ → List MoveTree) (bound : ℕ) (number : ℕ → ℕ → Option ℕ)
    : Type 0 where
  pub numbering : IsNumbering edges moves number
  pub within : (s q n : ℕ) → number s q ≡ Some n → n ≤ bound

-- the least numbers: every numbering numbers these pairs too, and no less
abbrev pub IsLeast : (ℕ → List EdgeTree) → (ℕ → List MoveTree) → (ℕ → ℕ → Option ℕ) → Type 0
IsLeast edges moves number = (other : ℕ → ℕ → Option ℕ) → IsNumbering edges moves other → (s q n : ℕ) → number s q ≡ Some n
    → IsAtLeast n (other s q)

-- the numbers in a list, where the pair of states s and q stands at s * states + q
abbrev pub number_of_pair : ℕ → List (Option ℕ) → ℕ → ℕ → Option ℕ
number_of_pair states numbers s q = option_and_then (λ n. n) (cell_at states numbers s q)
