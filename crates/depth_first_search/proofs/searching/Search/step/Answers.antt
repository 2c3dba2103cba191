use Rattle.std.proofs.Common.{◌-◌, arith}
use Rattle.depth_first_search.specs.Graphs.{graph_of}
use Rattle.depth_first_search.proofs.GraphRows.{use_goes}
use Rattle.depth_first_search.proofs.SearchLemmas.{reversed_with}
use Rattle.depth_first_search.proofs.searching.Search.step.Goals as goal

pub place_of-requires : goal.place_of-requires
place_of-requires c =
    let s = c.args.last in
    let v = c.nth_use-used.result in
    omega (
      arith,
      c.requires.graph s.number v (use_goes (graph_of c.args.graph.now) s.number (s.left - 1) v c.nth_use-used.ensures),
      c.requires.search.holds.sizes,
    )

pub enter-requires-clause-leads : goal.enter-requires-clause-leads
enter-requires-clause-leads c =
    rw (c.in_ok-push-in-None.ensures.items, reversed_with)
    (use_goes (graph_of c.args.graph.now) c.args.last.number (c.args.last.left - 1) c.nth_use-used.result c.nth_use-used.ensures)
