use Rattle.std.proofs.Common.{length, sym, subst}
use Rattle.letter_space.specs.SpaceView.{space_tree}
use Rattle.machines.specs.MachineView.{environment_tree}
use Rattle.branch_finder.specs.internal.Thinning.{IsCandidate}
use Rattle.branch_finder.proofs.Seen.{alone_candidate}
use Rattle.branch_finder.proofs.windows.window_of_right.Goals as goal

pub returns : goal.returns
returns c =
    let look = c.args.look.now in
    let search = look.walk.search in
    let space = space_tree search.space.now in
    let e = environment_tree search.environment.now in
    let cells = search.cells.now in
    let path = look.walk.path.now in
    let seen = c.requires.seen in
    subst (IsCandidate space e cells search.equality (length path)) (sym (c.in_ok-window_of.ensures seen.probe seen.is_probe))
    (alone_candidate space e cells search.equality search.mask path look.walk.prints.now search.space.now.is_space
    c.requires.look.walk.search.fits.vectors c.requires.look.walk.path.vectors c.requires.look.walk.one_more c.args.right seen)
