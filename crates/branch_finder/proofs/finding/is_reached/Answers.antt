use Rattle.std.proofs.Common.{◌∙◌, map, take, length, ◌-◌, sym, subst}
use Rattle.std.proofs.lemmas.Bool.{false≢true}
use Rattle.letter_space.specs.SpaceView.{space_tree}
use Rattle.machines.specs.MachineView.{environment_tree}
use Rattle.branch_finder.specs.internal.Sets.{numbered_set}
use Rattle.branch_finder.specs.internal.Planes.{IsPlaneOf}
use Rattle.branch_finder.proofs.ToldApart.{led_below}
use Rattle.branch_finder.proofs.finding.is_reached.Goals as goal

pub returns : goal.returns
returns c none t comes =
    let search = c.args.search.now in
    let space = space_tree search.space.now in
    let environment = search.environment.now in
    let e = environment_tree environment in
    let sets = map (numbered_set space search.cells.now search.firsts.now) (take (length c.args.prints.now - 1) c.args.numbers.now) in
    let below = led_below space e search.mask environment.has_truths sets c.args.prints.now comes.state t comes.leads in
    let plane = subst (IsPlaneOf e.states _) (sym c.as_slice.ensures.value) c.in_ok-states.ensures in
    false≢true (sym ((rw none at c.any_bit.ensures) t) ∙ (plane.tells t below).1 comes)
