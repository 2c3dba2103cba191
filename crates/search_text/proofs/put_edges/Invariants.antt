-- What is written and what is left make the whole.
use Rattle.std.proofs.Common.{◌≡◌, ◌++◌, drop, map}
use Rattle.tsl_text.specs.Written.{text_of_lines}
use Rattle.cobuchi_automata.specs.Edges.{edge_trees}
use Rattle.search_text.specs.SearchTexts.{edge_line}
use Rattle.search_text.proofs.put_edges.Given as goal

abbrev pub invariant-loop-edge : goal.invariant-loop-edge
invariant-loop-edge l = l.out.items ++ text_of_lines (map edge_line (edge_trees (drop l.edge-index l.edges)))
    ≡ l.fn.out.items ++ text_of_lines (map edge_line (edge_trees l.edges))
