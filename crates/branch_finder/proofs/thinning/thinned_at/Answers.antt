use Rattle.std.proofs.Common.{◌∙◌, length, sym, ap, subst, arith}
use Rattle.std.proofs.lemmas.Bool.{false≢true}
use Rattle.std.proofs.lemmas.List.{length-map}
use Rattle.tsl_terms.specs.WindowTree.{WindowTree, listed_tree, window_tree}
use Rattle.tsl_terms.specs.Congruence.{IsCongruent, UpdateCells}
use Rattle.letter_space.specs.SpaceView.{space_tree}
use Rattle.machines.specs.MachineView.{environment_tree}
use Rattle.branch_finder.specs.internal.Thinning.{IsCandidate, AreNeededFrom}
use Rattle.branch_finder.proofs.Thinned.{still_candidate, still_needed, needed_here, without_of_cells, place_stays_within}
use Rattle.branch_finder.proofs.thinning.thinned_at.Goals as goal

pub congruent-requires : goal.congruent-requires
congruent-requires c =
    let search = c.args.search.now in
    subst (UpdateCells search.cells.now) (sym (ap (λ (w : WindowTree). w.updates) c.in_ok-thinner.ensures))
    (without_of_cells (space_tree search.space.now) (environment_tree search.environment.now) search.cells.now search.equality
    c.args.window.length (window_tree c.args.window) c.requires.candidate c.args.place)

pub returns-then-branch-clause-candidate : goal.returns-then-branch-clause-candidate
returns-then-branch-clause-candidate c =
    let search = c.args.search.now in
    subst (IsCandidate (space_tree search.space.now) (environment_tree search.environment.now) search.cells.now search.equality
    c.args.window.length) (sym c.in_ok-thinner.ensures)
    (still_candidate (space_tree search.space.now) (environment_tree search.environment.now) search.cells.now search.equality
    c.args.window.length (window_tree c.args.window) c.requires.candidate c.args.place
    (subst (IsCongruent search.cells.now search.equality) c.in_ok-thinner.ensures (c.in_ok-congruent.ensures.0 c.if-branch.true)))

pub returns-then-branch-clause-place : goal.returns-then-branch-clause-place
returns-then-branch-clause-place c =
    let updates = ap (λ (w : WindowTree). w.updates) c.in_ok-thinner.ensures in
    let within = place_stays_within c.args.place (window_tree c.args.window).updates
    (omega (arith, c.requires.place, length-map c.args.window.updates listed_tree)) in
    omega (arith, within, ap length updates, length-map c.in_ok-thinner.thinner.updates listed_tree)

pub returns-then-branch-clause-needed : goal.returns-then-branch-clause-needed
returns-then-branch-clause-needed c =
    let search = c.args.search.now in
    subst (AreNeededFrom search.cells.now search.equality c.args.place) (sym c.in_ok-thinner.ensures)
    (still_needed (space_tree search.space.now) (environment_tree search.environment.now) search.cells.now search.equality
    c.args.window.length (window_tree c.args.window) c.requires.candidate c.args.place
    (omega (arith, c.requires.place, length-map c.args.window.updates listed_tree)) c.requires.needed)

pub returns-clause-needed : goal.returns-clause-needed
returns-clause-needed c =
    let search = c.args.search.now in
    needed_here search.cells.now search.equality c.args.place (window_tree c.args.window)
    (λ is. false≢true (sym c.if-branch.false
    ∙ c.in_ok-congruent.ensures.1 (subst (IsCongruent search.cells.now search.equality) (sym c.in_ok-thinner.ensures) is)))
    c.requires.needed
