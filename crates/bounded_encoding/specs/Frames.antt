-- What the questions for a controller and for an environment share: how a machine of so many states goes on in rows, one for each
-- thing that it may be told (a valuation, or a vector), and how its pairs with an automaton's states are numbered.
use Rattle.std.specs.Prelude.{ℕ, ◌+◌, ◌*◌, List}
use Rattle.cobuchi_automata.specs.Automata.{EdgeTree}
use Rattle.bounded_encoding.specs.declared.grid.Grid.{Grid}

-- The variables of what the machine itself does come first, then those of next states, then those of numbers. Its own variables
-- of a state and a row stand for the bits of a letter from a first one on.
pub record FrameTree : Type 0 where
  pub automaton_states : ℕ
  pub edges : List EdgeTree
  pub states : ℕ
  pub rows : ℕ
  pub bound : ℕ
  pub own : ℕ
  pub first_bit : ℕ
  pub bits : ℕ

-- the index of the variable that from a state in a row it goes to this state
abbrev pub next_at : FrameTree → ℕ → ℕ → ℕ → ℕ
next_at f s r t = f.own + (s * f.rows + r) * f.states + t

-- that of the variable that the pair of a state and a state of the automaton has a number, at least this one
abbrev pub before_pairs_of : FrameTree → ℕ
before_pairs_of f = f.own + f.states * f.rows * f.states

abbrev pub number_at : FrameTree → ℕ → ℕ → ℕ → ℕ
number_at f s p i = before_pairs_of f + (s * f.automaton_states + p) * (f.bound + 1) + i

-- how many variables there are
abbrev pub variables_of : FrameTree → ℕ
variables_of f = before_pairs_of f + f.states * f.automaton_states * (f.bound + 1)

-- the variables of next states by state and row, and those of numbers by state and state of the automaton
abbrev pub next_grid : FrameTree → Grid
next_grid f = record { base = f.own; rows = f.states; columns = f.rows; width = f.states }

abbrev pub number_grid : FrameTree → Grid
number_grid f = record { base = before_pairs_of f; rows = f.states; columns = f.automaton_states; width = f.bound + 1 }
