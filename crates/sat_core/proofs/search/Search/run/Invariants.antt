use Rattle.std.proofs.Common.{◌≡◌}
use Rattle.sat_core.specs.internal.Searches.{task_of, IsSearching}
use Rattle.sat_core.proofs.SearchNotes.{measure}
use Rattle.sat_core.proofs.search.Search.run.Given as goal

abbrev pub invariant-loop-self : goal.invariant-loop-self
invariant-loop-self l = record {
  searching : IsSearching l.self;
  same_task : task_of l.self ≡ task_of l.fn.self;
}

abbrev pub decreases-loop-self : goal.decreases-loop-self
decreases-loop-self l = measure l.self
