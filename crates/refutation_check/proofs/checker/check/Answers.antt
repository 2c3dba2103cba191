use Rattle.std.proofs.Common.{◌≡◌, None, sym, subst}
use Rattle.refutation_check.specs.Checking.{log_refusal}
use Rattle.refutation_check.proofs.Accepting.{AreChecked, checked_more, all_accepted}
use Rattle.refutation_check.proofs.Refuting.{accepted_refutes}
use Rattle.refutation_check.proofs.checker.check.Goals as goal

pub loop-place-preserved : goal.loop-place-preserved
loop-place-preserved c =
    let kept = c.loop-place.invariant in
    let cnf = c.args.cnf.now in
    let steps = c.as_slice-steps.result.now in
    let so_far : AreChecked cnf.variables cnf.clauses steps c.loop-place.place c.loop-place.largest =
    record { accepted = kept.accepted; count = kept.count; largest_so_far = kept.largest; same = kept.same } in
    let next = checked_more cnf.variables cnf.clauses steps c.loop-place.place c.loop-place.largest c.index-steps-place.result
    c.loop-place-test.true c.index-steps-place.is so_far c.in_ok-check_step.ensures.accepted in
    record {
      unmarked = c.in_ok-check_step.ensures.unmarked;
      accepted = next.accepted;
      count = next.count;
      largest = next.largest_so_far;
      same = next.same;
    }

pub returns-then-has_empty_clause-clause-unsatisfiable : goal.returns-then-has_empty_clause-clause-unsatisfiable
returns-then-has_empty_clause-clause-unsatisfiable c =
    let cnf = c.args.cnf.now in
    let steps = c.as_slice-steps.result.now in
    accepted_refutes cnf.variables cnf.clauses c.args.log.now.steps
    (subst (λ ss. log_refusal cnf.variables cnf.clauses ss ≡ None) c.as_slice-steps.ensures
    (all_accepted cnf.variables cnf.clauses steps c.loop-place.place c.loop-place.largest c.loop-place-test.false
    c.loop-place.invariant.same (sym c.if-has_empty_clause.ensures)))
