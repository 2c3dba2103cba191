use Rattle.std.proofs.Common.{length, arith}
use Rattle.tsl_terms.specs.WindowTree.{window_tree}
use Rattle.letter_space.specs.SpaceView.{space_tree}
use Rattle.machines.specs.MachineView.{environment_tree}
use Rattle.branch_finder.specs.internal.Finding.{HasNoneOf}
use Rattle.branch_finder.proofs.LoopFacts.{all_more}
use Rattle.branch_finder.proofs.Paths.{powers_grow}
use Rattle.branch_finder.proofs.Found.{found_least, none_within}
use Rattle.branch_finder.proofs.finding.least_window.Goals as goal

pub window_of_length-requires-clause-few : goal.window_of_length-requires-clause-few
window_of_length-requires-clause-few c =
    let grow = powers_grow (length c.args.search.now.firsts.now) c.loop-length.length c.args.depth c.requires.some
    (omega (arith, c.loop-length-test.true)) in
    omega (arith, grow, c.requires.few)

pub returns-in-Some-clause-found : goal.returns-in-Some-clause-found
returns-in-Some-clause-found c =
    let search = c.args.search.now in
    found_least (space_tree search.space.now) (environment_tree search.environment.now) search.cells.now search.equality c.args.depth
    c.loop-length.length
    (window_tree c.in-Some.window) (omega (arith, c.loop-length-test.true)) c.loop-length.invariant
    (rw c.in-Some.is at c.in_ok-window.ensures.found)

pub loop-length-preserved : goal.loop-length-preserved
loop-length-preserved c =
    let search = c.args.search.now in
    all_more (HasNoneOf (space_tree search.space.now) (environment_tree search.environment.now) search.cells.now search.equality)
    c.loop-length.length
    c.loop-length.invariant (rw c.in_default.is at c.in_ok-window.ensures.none)

pub returns-clause-none : goal.returns-clause-none
returns-clause-none c =
    let search = c.args.search.now in
    none_within (space_tree search.space.now) (environment_tree search.environment.now) search.cells.now search.equality c.args.depth
    (λ n few. c.loop-length.invariant n (omega (arith, few, c.loop-length-test.false)))

pub returns-then-not-may_be_spurious-clause-none : goal.returns-then-not-may_be_spurious-clause-none
returns-then-not-may_be_spurious-clause-none c w within congruent spurious =
    c.may_be_spurious.ensures c.if-not-may_be_spurious.true w within.left_within congruent spurious
