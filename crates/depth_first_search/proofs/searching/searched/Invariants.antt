use Rattle.std.proofs.Common.{◌≡◌, ◌<◌, ℕ, []}
use Rattle.depth_first_search.specs.Graphs.{graph_of}
use Rattle.depth_first_search.specs.internal.Searches.{IsSearchOf, IsMet}
use Rattle.depth_first_search.proofs.searching.searched.Given as goal

-- the numbers gone through are met, and none is on the path
abbrev pub invariant-loop-start : goal.invariant-loop-start
invariant-loop-start l = record {
  search : IsSearchOf (graph_of l.graph) l.search;
  path : l.search.path.items ≡ [];
  met : (i : ℕ) → i < l.start → IsMet l.search.places.items i;
}
