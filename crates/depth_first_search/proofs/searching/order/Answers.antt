use Rattle.depth_first_search.proofs.SearchLemmas.{whole_order}
use Rattle.depth_first_search.proofs.searching.order.Goals as goal

pub returns-in-None : goal.returns-in-None
returns-in-None c = whole_order c.args.graph.now c.in_ok-search.search c.in_ok-search.ensures c.in-None.is
