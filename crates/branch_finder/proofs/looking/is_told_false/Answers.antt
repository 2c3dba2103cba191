use Rattle.std.proofs.Common.{List, ℕ, map, sym, subst}
use Rattle.letter_space.specs.SpaceView.{space_tree}
use Rattle.machines.specs.MachineView.{environment_tree}
use Rattle.branch_finder.specs.internal.Sets.{set_of}
use Rattle.branch_finder.specs.internal.Planes.{IsPlaneOf, ComesFrom}
use Rattle.branch_finder.proofs.MoveLemmas.{sets_along}
use Rattle.branch_finder.proofs.VisitLemmas.{is_environment, visited_below}
use Rattle.branch_finder.proofs.ToldApart.{false_by_planes}
use Rattle.branch_finder.proofs.looking.is_told_false.Goals as goal

pub returns : goal.returns
returns c =
    let walk = c.args.walk.now in
    let space = space_tree walk.search.space.now in
    let environment = walk.search.environment.now in
    let e = environment_tree environment in
    let cells = walk.search.cells.now in
    let firsts = walk.search.firsts.now in
    let mask = walk.search.mask in
    let prints = walk.prints.now in
    let sets = map (set_of space cells) walk.path.now in
    let comes = subst (λ (ss : List ℕ). IsPlaneOf e.states (ComesFrom space e mask ss prints walk.search.visited.now) c.as_slice.result.now)
    (sets_along space cells firsts walk.numbers.now walk.path.now c.requires.walk.path.is)
    (subst (IsPlaneOf e.states _) (sym c.as_slice.ensures.value) c.in_ok-last.ensures) in
    let both = false_by_planes space e environment.has_truths mask sets prints c.bit_wanted.result.mask c.bit_wanted.result.bits
    c.args.right
    walk.search.visited.now c.as_slice.result.now c.bit_wanted.ensures c.requires.walk.search.visited comes
    (visited_below e (is_environment environment)) in
    (λ is. both.0 (c.is_some_with.ensures.0 is), λ told. c.is_some_with.ensures.1 (both.1 told))
