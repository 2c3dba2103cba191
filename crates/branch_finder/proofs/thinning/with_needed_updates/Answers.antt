use Rattle.std.proofs.Common.{sym, subst, arith}
use Rattle.tsl_terms.specs.WindowTree.{window_tree}
use Rattle.letter_space.specs.SpaceView.{space_tree}
use Rattle.machines.specs.MachineView.{environment_tree}
use Rattle.branch_finder.specs.internal.Thinning.{IsCandidate}
use Rattle.branch_finder.proofs.thinning.with_needed_updates.Goals as goal

pub thinned_at-requires-clause-candidate : goal.thinned_at-requires-clause-candidate
thinned_at-requires-clause-candidate c =
    let search = c.args.search.now in
    subst (λ n. IsCandidate (space_tree search.space.now) (environment_tree search.environment.now) search.cells.now search.equality n
    (window_tree c.loop-place.window)) (sym c.loop-place.invariant.candidate.long) c.loop-place.invariant.candidate

pub thinned_at-requires-clause-needed : goal.thinned_at-requires-clause-needed
thinned_at-requires-clause-needed c place from below is =
    c.loop-place.invariant.needed place (omega (arith, from, c.loop-place-test.true)) below is

pub loop-place-preserved : goal.loop-place-preserved
loop-place-preserved c =
    let search = c.args.search.now in
    record {
      candidate = subst (λ n. IsCandidate (space_tree search.space.now) (environment_tree search.environment.now) search.cells.now
          search.equality n (window_tree c.in_ok-window.window)) c.loop-place.invariant.candidate.long c.in_ok-window.ensures.candidate;
      within = c.in_ok-window.ensures.place;
      needed = c.in_ok-window.ensures.needed;
    }

pub returns-clause-needed : goal.returns-clause-needed
returns-clause-needed c place from below is =
    c.loop-place.invariant.needed place (omega (arith, from, c.loop-place-test.false)) below is
