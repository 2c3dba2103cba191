use Rattle.std.proofs.Common.{reverse, arith}
use Rattle.depth_first_search.specs.Graphs.{graph_of}
use Rattle.depth_first_search.proofs.SearchLemmas.{entered, met_new, reversed_with}
use Rattle.depth_first_search.proofs.searching.Search.enter.Goals as goal

pub returns-clause-on : goal.returns-clause-on
returns-clause-on c =
    let w = c.args.self.now in
    rw (c.in_ok-push.ensures.items, c.in_ok-push-2.ensures.items, reversed_with)
    (entered (graph_of c.args.graph.now) w.places.items
    (record { number = c.args.number; place = c.len-place.result; left = c.count_uses.result; low = c.len.result }) (reverse w.path.items)
    c.requires.fresh w.held.items w.ranked.items w.least (omega arith) c.count_uses.ensures (omega (arith, c.in_ok-push.ensures.len))
    c.requires.leads c.requires.search)

pub returns-clause-met : goal.returns-clause-met
returns-clause-met c = met_new c.args.self.now.places.items c.args.number c.len-place.result c.requires.fresh
