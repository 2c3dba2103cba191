-- What is written and what is left make the whole.
use Rattle.std.proofs.Common.{◌≡◌, ◌++◌, map, drop}
use Rattle.tsl_text.specs.Written.{text_of_lines}
use Rattle.cobuchi_automata.specs.Edges.{edge_trees}
use Rattle.automaton_text.specs.HoaText.{edge_text}
use Rattle.automaton_text.proofs.writer.put_edges.Given as goal

abbrev pub invariant-loop-edge : goal.invariant-loop-edge
invariant-loop-edge l =
    l.out.items ++ text_of_lines (map (edge_text l.bits) (edge_trees (drop l.edge-index l.edges)))
    ≡ l.fn.out.items ++ text_of_lines (map (edge_text l.bits) (edge_trees l.edges))
