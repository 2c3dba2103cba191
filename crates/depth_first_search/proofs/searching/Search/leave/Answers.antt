use Rattle.std.proofs.Common.{reverse, arith}
use Rattle.depth_first_search.proofs.SearchLemmas.{lowered_on, let_go}
use Rattle.depth_first_search.proofs.searching.Search.leave.Goals as goal

pub returns-in_ok-lower : goal.returns-in_ok-lower
returns-in_ok-lower c = λ graph is.
    let w = c.args.self.now in
    rw (c.lower.ensures.is, c.in_ok-lower.ensures.path, c.in_ok-push.ensures.items)
    (lowered_on graph w.places.items w.held.items c.args.last (reverse w.path.items) w.ranked.items w.least is c.requires c.told-self.result
    c.told-self.ensures c.if-last.true)

pub returns-else-last : goal.returns-else-last
returns-else-last c = λ graph is.
    let w = c.args.self.now in
    rw (c.truncate.ensures.items, c.in_ok-push.ensures.items)
    (let_go graph w.places.items w.held.items c.args.last (reverse w.path.items) w.ranked.items w.least is c.requires c.told-self.result
    c.told-self.ensures (omega arith))
