-- A run that closes as a pure value, without where its values and terms lie in memory.
use Rattle.std.specs.Prelude.{ℕ, List, map}
use Rattle.tsl_terms.specs.TermTree.{TermTree, term_tree}
use Rattle.tsl_meaning.specs.declared.run.Position.{Position}
use Rattle.tsl_meaning.specs.declared.run.LoopRun.{LoopRun}

-- the place among the input rows, the state, what is seen of each input's and each cell's value, and the terms assigned
pub record PositionTree (S : Type 0) : Type 0 where
  pub place : ℕ
  pub state : ℕ
  pub row : List S
  pub cells : List S
  pub updates : List TermTree

-- the signals, the position that the last one goes on to, how many positions go round, and the positions in order
pub record RunTree (S : Type 0) : Type 0 where
  pub inputs : List ℕ
  pub cells : List ℕ
  pub outputs : List ℕ
  pub start : ℕ
  pub length : ℕ
  pub positions : List (PositionTree S)

abbrev pub position_tree : {V S : Type 0} → (V → S) → Position V → PositionTree S
position_tree seen p = record {
  place = p.place;
  state = p.state;
  row = map seen p.row;
  cells = map seen p.cells;
  updates = map term_tree p.updates;
}

-- a run by what is seen of its values
abbrev pub run_tree : {V S : Type 0} → (V → S) → LoopRun V → RunTree S
run_tree seen run = record {
  inputs = run.inputs;
  cells = run.cells;
  outputs = run.outputs;
  start = run.start;
  length = run.length;
  positions = map (position_tree seen) run.positions;
}
