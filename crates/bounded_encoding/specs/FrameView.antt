-- The pure value of a frame, and what holds of a side that is asked.
use Rattle.std.specs.Prelude.{ℕ, ◌+◌, ◌≤◌, ◌<◌, ◌^◌, List}
use Rattle.cobuchi_automata.specs.Automata.{EdgeTree}
use Rattle.cobuchi_automata.specs.Edges.{edge_trees}
use Rattle.bounded_encoding.specs.Frames.{FrameTree, variables_of}
use Rattle.bounded_encoding.specs.Sides.{SideTree, IsSide}
use Rattle.bounded_encoding.specs.declared.frame.Frame.{Frame}

abbrev pub frame_tree : Frame → FrameTree
frame_tree f = record {
  automaton_states = f.automaton.now.states;
  edges = edge_trees f.automaton.now.edges;
  states = f.states;
  rows = f.rows;
  bound = f.bound;
  own = f.own;
  first_bit = f.first_bit;
  bits = f.bits;
}

-- the side with a frame, by which rows meet an edge and where its own variables begin
abbrev pub side_of : Frame → (EdgeTree → List ℕ) → (ℕ → ℕ → ℕ) → SideTree
side_of f met base = record { frame = frame_tree f; met = met; base = base }

-- there are states, its own bits are bits of a letter, and the variables have numbers that fit
pub record IsFramed (f : FrameTree) : Type 0 where
  pub has_state : 1 ≤ f.states
  pub few : variables_of f < 2 ^ 31
  pub low_bound : f.bound + 1 < 2 ^ 31
  pub few_bits : f.first_bit + f.bits ≤ 64

-- a side that is asked of a frame: it answers for each of its states and rows
pub record IsServed (f : Frame) (met : EdgeTree → List ℕ) (base : ℕ → ℕ → ℕ) (Asked : Type 0) (IsCell : ℕ → ℕ → Type 0) : Type 0 where
  pub framed : IsFramed (frame_tree f)
  pub side : IsSide (side_of f met base)
  pub asked : Asked
  pub cells : (s r : ℕ) → s < f.states → r < f.rows → IsCell s r
