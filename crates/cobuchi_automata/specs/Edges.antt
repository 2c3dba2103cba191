-- Edges as they are built, as edges without how they lie in memory.
use Rattle.std.specs.Prelude.{ℕ, ◌<◌, List, map}
use Rattle.cobuchi_automata.specs.declared.automaton.Edge.{Edge}
use Rattle.cobuchi_automata.specs.Automata.{EdgeTree}

abbrev pub edge_tree : Edge → EdgeTree
edge_tree e = record { from = e.from; care = e.cube.care; want = e.cube.want; to = e.to; rejecting = e.rejecting }

abbrev pub edge_trees : List Edge → List EdgeTree
edge_trees es = map edge_tree es

-- an edge between states with numbers below a bound
abbrev pub IsBetween : ℕ → Edge → Type 0
IsBetween states e = (e.from < states) × (e.to < states)
