use Rattle.letter_space.specs.SpaceView.{space_tree}
use Rattle.machines.specs.MachineView.{environment_tree}
use Rattle.branch_finder.proofs.NoneSeen.{none_seen}
use Rattle.branch_finder.proofs.windows.window_seen.Goals as goal

pub returns-clause-none : goal.returns-clause-none
returns-clause-none c =
    let look = c.args.look.now in
    let search = look.walk.search in
    none_seen (space_tree search.space.now) (environment_tree search.environment.now) search.cells.now search.equality search.mask
    look.walk.path.now look.walk.prints.now search.space.now.is_space c.requires.look.walk.search.fits.vectors
    c.requires.look.walk.path.vectors
    c.requires.look.walk.one_more c.requires.look.walk.search.mask c.requires.look.walk.prints
    (rw c.in_default.is at c.in_ok-pair.ensures.none)
    (rw c.in_default-2.is at c.in_ok-right.ensures.none)
