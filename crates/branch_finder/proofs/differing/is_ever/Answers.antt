use Rattle.machines.specs.MachineView.{environment_tree}
use Rattle.branch_finder.proofs.VisitLemmas.{is_environment, visited_below}
use Rattle.branch_finder.proofs.ToldApart.{ever_by_plane}
use Rattle.branch_finder.proofs.differing.is_ever.Goals as goal

pub returns : goal.returns
returns c =
    let search = c.args.search.now in
    let e = environment_tree search.environment.now in
    let wanted = c.bit_wanted.result in
    let ever = ever_by_plane e wanted.mask wanted.bits c.args.bit c.args.wanted search.visited.now c.bit_wanted.ensures
    c.requires.search.visited (visited_below e (is_environment search.environment.now)) in
    (λ is. ever.0 (c.is_some_with.ensures.0 is), λ is. c.is_some_with.ensures.1 (ever.1 is))
