use Rattle.std.proofs.Common.{◌+◌, refl}
use Rattle.bounded_encoding.specs.SimpleClauses.{no_two_with}
use Rattle.bounded_encoding.proofs.Adding.{passed_on}
use Rattle.bounded_encoding.proofs.Begun.{leads_first, leads_next, leads_refused, leads_cut, leads_end}
use Rattle.bounded_encoding.proofs.simple_clauses.add_no_two.Goals as goal

pub loop-x-init : goal.loop-x-init
loop-x-init c = leads_first _ _

pub returns-in_err-add_not_with-clause-refused : goal.returns-in_err-add_not_with-clause-refused
returns-in_err-add_not_with-clause-refused c = passed_on _ _ _ c.from_residual.ensures.1
    (λ is. leads_refused _ _ _ _ _ (λ x. no_two_with (λ z. c.args.base + z) x c.args.to) c.loop-x.invariant c.loop-x-test.true _ refl
    (c.in_err-add_not_with.ensures.refused is))

pub returns-in_err-add_not_with-clause-begun : goal.returns-in_err-add_not_with-clause-begun
returns-in_err-add_not_with-clause-begun c = passed_on _ _ _ c.from_residual.ensures.1
    (leads_cut _ _ _ _ _ (λ x. no_two_with (λ z. c.args.base + z) x c.args.to) c.loop-x.invariant c.loop-x-test.true _ refl
    _ (c.in_err-add_not_with.ensures.begun))

pub loop-x-preserved : goal.loop-x-preserved
loop-x-preserved c =
    leads_next _ _ _ _ _ (λ x. no_two_with (λ z. c.args.base + z) x c.args.to) c.loop-x.invariant c.loop-x-test.true _ refl
    _ c.in_ok-add_not_with.ensures.added

pub returns-clause-added : goal.returns-clause-added
returns-clause-added c = leads_end _ _ _ _ _ (λ x. no_two_with (λ z. c.args.base + z) x c.args.to) c.loop-x.invariant c.loop-x-test.false
