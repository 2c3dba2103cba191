use Rattle.depth_first_search.proofs.SearchLemmas.{whole_first}
use Rattle.depth_first_search.proofs.searching.first_on_cycle.Goals as goal

pub returns : goal.returns
returns c = whole_first c.args.graph.now c.in_ok-searched.field-0 c.in_ok-searched.ensures
