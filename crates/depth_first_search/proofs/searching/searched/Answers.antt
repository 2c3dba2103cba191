use borrow.Author.Count.{below_more}
use Rattle.depth_first_search.specs.internal.Searches.{IsMet}
use Rattle.depth_first_search.proofs.searching.searched.Goals as goal

pub loop-start-preserved : goal.loop-start-preserved
loop-start-preserved c = record {
  search = c.in_ok-walk_from.ensures.search;
  path = c.in_ok-walk_from.ensures.path;
  met = below_more (IsMet c.walk_from.new.self.places.items) c.loop-start.start
      (λ i less. c.in_ok-walk_from.ensures.met i (c.loop-start.invariant.met i less)) c.in_ok-walk_from.ensures.start;
}
