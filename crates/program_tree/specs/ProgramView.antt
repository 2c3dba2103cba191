-- The pure value of a program.
use Rattle.std.specs.Prelude.{map}
use Rattle.tsl_terms.specs.WindowTree.{window_tree}
use Rattle.program_tree.specs.declared.program.Program.{Program}
use Rattle.program_tree.specs.NodeTree.{node_tree}
use Rattle.program_tree.specs.ProgramTree.{ProgramTree}

abbrev pub program_tree : Program → ProgramTree
program_tree p = record {
  inputs = p.inputs;
  cells = p.cells;
  outputs = p.outputs;
  windows = map window_tree p.windows;
  nodes = map node_tree p.nodes;
  states = p.states;
}
