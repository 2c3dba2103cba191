use Rattle.std.proofs.Common.{◌∙◌, ◌<◌, ℕ, List, length, map, sym, ap, subst, arith}
use Rattle.std.specs.List.{AllByRecursion}
use Rattle.tsl_terms.specs.WindowTree.{window_tree}
use Rattle.letter_space.specs.SpaceView.{space_tree}
use Rattle.machines.specs.MachineView.{environment_tree}
use Rattle.branch_finder.specs.internal.Sets.{first_of}
use Rattle.branch_finder.specs.internal.Paths.{path_of}
use Rattle.branch_finder.specs.internal.Finding.{IsFoundOf, HasNoneOn}
use Rattle.branch_finder.proofs.LoopFacts.{all_more}
use Rattle.branch_finder.proofs.Paths.{path_length, path_within}
use Rattle.branch_finder.proofs.Found.{none_of_length}
use Rattle.branch_finder.proofs.finding.window_of_length.Goals as goal

pub overflow_cast-sets : goal.overflow_cast-sets
overflow_cast-sets c = record { fits = c.requires.search.few }

pub window_on_path-requires-clause-numbers : goal.window_on_path-requires-clause-numbers
window_on_path-requires-clause-numbers c =
    let firsts = c.args.search.now.firsts.now in
    subst (AllByRecursion (λ n. n < length firsts)) (sym (c.deref.ensures.value ∙ c.in_ok-path.ensures))
    (path_within (length firsts) c.args.length c.loop-number.number (omega (arith, c.requires.some)))

pub window_on_path-requires-clause-short : goal.window_on_path-requires-clause-short
window_on_path-requires-clause-short c =
    let sized = path_length (length c.args.search.now.firsts.now) c.args.length c.loop-number.number in
    omega (arith, ap length (c.deref.ensures.value ∙ c.in_ok-path.ensures), sized, c.requires.short)

pub returns-in-Some-clause-found : goal.returns-in-Some-clause-found
returns-in-Some-clause-found c =
    let search = c.args.search.now in
    subst (λ n. IsFoundOf (space_tree search.space.now) (environment_tree search.environment.now) search.cells.now search.equality n
    (window_tree c.in-Some.window))
    (ap length (c.deref.ensures.value ∙ c.in_ok-path.ensures)
    ∙ path_length (length search.firsts.now) c.args.length c.loop-number.number)
    (rw c.in-Some.is at c.in_ok-window.ensures.found)

pub loop-number-preserved : goal.loop-number-preserved
loop-number-preserved c =
    let search = c.args.search.now in
    let firsts = search.firsts.now in
    all_more (λ n. HasNoneOn (space_tree search.space.now) (environment_tree search.environment.now) search.cells.now search.equality
    (map (first_of firsts) (path_of (length firsts) c.args.length n))) c.loop-number.number c.loop-number.invariant
    (subst (λ (ns : List ℕ). HasNoneOn (space_tree search.space.now) (environment_tree search.environment.now) search.cells.now
    search.equality (map (first_of firsts) ns))
    (c.deref.ensures.value ∙ c.in_ok-path.ensures) (rw c.in_default.is at c.in_ok-window.ensures.none))

pub returns-clause-none : goal.returns-clause-none
returns-clause-none c =
    let search = c.args.search.now in
    none_of_length (space_tree search.space.now) (environment_tree search.environment.now) search.cells.now search.equality
    search.firsts.now
    c.args.length
    search.space.now.is_space c.requires.search.fits.vectors c.requires.search.firsts
    (λ n below. c.loop-number.invariant n (omega (arith, below, c.count_paths-number-end.ensures, c.loop-number-test.false)))
