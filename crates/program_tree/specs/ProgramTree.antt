-- Programs as pure values, without where they lie in memory.
use Rattle.std.specs.Prelude.{ℕ, List, ◌++◌}
use Rattle.tsl_terms.specs.WindowTree.{WindowTree}
use Rattle.program_tree.specs.NodeTree.{NodeTree}

-- the signals, the windows, the nodes by number, and the first node of each state
pub record ProgramTree : Type 0 where
  pub inputs : List ℕ
  pub cells : List ℕ
  pub outputs : List ℕ
  pub windows : List WindowTree
  pub nodes : List NodeTree
  pub states : List ℕ

-- the signals that a program updates, in the order of a node's terms
abbrev pub controlled : ProgramTree → List ℕ
controlled program = program.cells ++ program.outputs
