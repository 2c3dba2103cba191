-- Machines as pure values: tables with states, which begin in state 0. A controller gives, for each state and each
-- valuation of what is tested, what it chooses and the state to go to (a Mealy machine). An environment gives for each
-- state what is true there, and for each vector of choices the state to go to (a Moore machine).
-- Source: Finkbeiner, Klein, Piskac, Santolucito: Temporal Stream Logic: Synthesis Beyond the Bools (CAV 2019).
use Rattle.std.specs.Prelude.{◌≡◌, ℕ, ◌+◌, ◌*◌, ◌<◌, ◌≤◌, List, map, length, Option, Some, slice_get, nat_lt, cond, None}

-- what a controller does in a state under a valuation: one choice for each controlled signal, and the state to go to
pub record EntryTree : Type 0 where
  pub choices : List ℕ
  pub next : ℕ

-- the entry of state s and valuation v stands at s * valuations + v
pub record ControllerTree : Type 0 where
  pub states : ℕ
  pub valuations : ℕ
  pub entries : List EntryTree

-- the state to go to from state s under vector u stands at s * vectors + u; each state has a valuation
pub record EnvironmentTree : Type 0 where
  pub states : ℕ
  pub vectors : ℕ
  pub truths : List ℕ
  pub next : List ℕ

-- each of these numbers is that of one of so many states
abbrev pub NameStates : ℕ → List ℕ → Type 0
NameStates states numbers = (i n : ℕ) → slice_get numbers i ≡ Some n → n < states

-- what stands in a table at a row and a column, where the column is one of so many
abbrev pub cell_at : {X : Type 0} → ℕ → List X → ℕ → ℕ → Option X
cell_at columns cells row column = cond (nat_lt column columns) (slice_get cells (row * columns + column)) None

-- the entry of a state and a valuation
abbrev pub controller_entry : ControllerTree → ℕ → ℕ → Option EntryTree
controller_entry c state valuation = cell_at c.valuations c.entries state valuation

-- the state to go to from a state under a vector
abbrev pub successor_at : EnvironmentTree → ℕ → ℕ → Option ℕ
successor_at e state vector = cell_at e.vectors e.next state vector

-- a table of a controller: there is a state, each state has an entry for each valuation, and each entry goes to a state
pub record IsController (c : ControllerTree) : Type 0 where
  pub has_state : 1 ≤ c.states
  pub has_entries : length c.entries ≡ c.states * c.valuations
  pub stays : NameStates c.states (map (λ e. e.next) c.entries)

-- a table of an environment: there is a state, each state has a valuation and goes to a state under each vector
pub record IsEnvironment (e : EnvironmentTree) : Type 0 where
  pub has_state : 1 ≤ e.states
  pub has_truths : length e.truths ≡ e.states
  pub has_next : length e.next ≡ e.states * e.vectors
  pub stays : NameStates e.states e.next
