use Rattle.std.proofs.Common.{◌≡◌, ◌+◌, length, Some, slice_get, sym, subst, arith, refl}
use Rattle.std.proofs.lemmas.Option.{slice_get_read, slice_get_within}
use Rattle.machines.specs.MachineView.{environment_tree}
use Rattle.branch_finder.specs.internal.Visiting.{AreFoundUpTo}
use Rattle.branch_finder.proofs.VisitLemmas.{is_environment, visited_below, found_one, found_row, still_here}
use Rattle.branch_finder.proofs.visiting.add_successors.Goals as goal

pub loop-vector-init : goal.loop-vector-init
loop-vector-init c = record {
  here =
      slice_get_read c.args.found.now.items (length c.args.found.now.items) c.args.place c.index-state.result.now refl c.requires.place
      c.index-state.ensures;
  found = c.requires.found;
}

pub successor-requires : goal.successor-requires
successor-requires c = record {
  state =
      visited_below (environment_tree c.args.environment.now) (is_environment c.args.environment.now) c.index-state.result.now
      (c.loop-vector.invariant.found.each c.args.place c.index-state.result.now c.loop-vector.invariant.here);
  vector = c.loop-vector-test.true;
}

pub loop-vector-preserved : goal.loop-vector-preserved
loop-vector-preserved c =
    let e = environment_tree c.args.environment.now in
    let state = c.index-state.result.now in
    record {
      here =
          subst (λ ns. slice_get ns c.args.place ≡ Some state) (sym c.in_ok-add_once.ensures)
          (still_here c.loop-vector.found.items c.args.place state c.successor.result c.loop-vector.invariant.here);
      found =
          subst (AreFoundUpTo e c.args.place (c.loop-vector.vector + 1)) (sym c.in_ok-add_once.ensures)
          (found_one e c.args.place state c.loop-vector.vector c.successor.result c.loop-vector.found.items c.loop-vector.invariant.here
          (sym c.successor.ensures) c.loop-vector.invariant.found);
    }

pub returns : goal.returns
returns c =
    found_row (environment_tree c.args.environment.now) c.args.place c.loop-vector.vector c.loop-vector.found.items
    (slice_get_within c.loop-vector.found.items c.args.place c.index-state.result.now c.loop-vector.invariant.here)
    (omega (arith, c.loop-vector-test.false)) c.loop-vector.invariant.found
