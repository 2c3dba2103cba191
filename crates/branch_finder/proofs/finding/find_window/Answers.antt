use Rattle.std.proofs.Common.{map, sym, subst, arith}
use Rattle.std.proofs.lemmas.Option.{IfSome_then}
use Rattle.tsl_terms.specs.WindowTree.{window_tree}
use Rattle.letter_space.specs.ControlledView.{controlled_tree}
use Rattle.letter_space.specs.SpaceView.{space_tree}
use Rattle.letter_space.proofs.Bounds.{some_vector}
use Rattle.machines.specs.MachineView.{environment_tree}
use Rattle.branch_finder.specs.internal.Relevant.{AreRelevant}
use Rattle.branch_finder.proofs.RelevantCells.{found_of_relevant, none_of_relevant}
use Rattle.branch_finder.proofs.finding.find_window.Goals as goal

pub are_too_many-requires-clause-some : goal.are_too_many-requires-clause-some
are_too_many-requires-clause-some c =
    omega (arith, some_vector (map controlled_tree c.args.space.now.controlled) c.args.space.now.is_space.chosen, c.requires.fits.vectors)

pub returns-clause-found : goal.returns-clause-found
returns-clause-found c =
    let are = subst (AreRelevant (space_tree c.args.space.now) c.args.cells.now) (sym c.as_slice.ensures.value) c.in_ok-relevant.ensures in
    IfSome_then c.in_ok-window_of_cells.field-0 c.in_ok-window_of_cells.ensures.found
    (λ w found. found_of_relevant (space_tree c.args.space.now) (environment_tree c.args.environment.now) c.args.cells.now
    c.as_slice.result.now c.args.equality c.args.depth (window_tree w) are found)

pub returns-clause-none : goal.returns-clause-none
returns-clause-none c =
    let are = subst (AreRelevant (space_tree c.args.space.now) c.args.cells.now) (sym c.as_slice.ensures.value) c.in_ok-relevant.ensures in
    none_of_relevant (space_tree c.args.space.now) (environment_tree c.args.environment.now) c.args.cells.now c.as_slice.result.now
    c.args.equality c.args.depth c.in_ok-window_of_cells.field-0 are c.in_ok-window_of_cells.ensures.none
