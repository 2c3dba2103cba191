-- Lists of edges, one for each state of an automaton.
use Rattle.std.specs.Prelude.{List, map, Vec}
use Rattle.std.specs.declared.alloc.Global.{Global}
use Rattle.cobuchi_automata.specs.Automata.{EdgeTree}
use Rattle.cobuchi_automata.specs.Edges.{edge_trees}
use Rattle.cobuchi_automata.specs.declared.automaton.Edge.{Edge}

abbrev pub edge_lists : List (Vec Edge Global) → List (List EdgeTree)
edge_lists table = map (λ es. edge_trees es.items) table
