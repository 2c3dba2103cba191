use Rattle.depth_first_search.specs.Graphs.{graph_of}
use Rattle.depth_first_search.specs.internal.Searches.{IsWalking, steps_left}
use Rattle.depth_first_search.proofs.searching.Search.walk_from.Given as goal

-- what was met is met, and so is the start
abbrev pub invariant-loop-last : goal.invariant-loop-last
invariant-loop-last l = IsWalking (graph_of l.graph) l.start l.fn.self l.self

abbrev pub decreases-loop-last : goal.decreases-loop-last
decreases-loop-last l = steps_left (graph_of l.graph) l.self
