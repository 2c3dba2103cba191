use Rattle.std.proofs.Common.{refl}
use Rattle.bounded_encoding.specs.Grids.{one_in_row}
use Rattle.bounded_encoding.proofs.Adding.{passed_on}
use Rattle.bounded_encoding.proofs.Begun.{leads_first, leads_next, leads_refused, leads_cut, leads_end}
use Rattle.bounded_encoding.proofs.grid.add_one_in_each.Goals as goal

pub loop-row-init : goal.loop-row-init
loop-row-init c = leads_first _ _

pub returns-in_err-add_one_in_row-clause-refused : goal.returns-in_err-add_one_in_row-clause-refused
returns-in_err-add_one_in_row-clause-refused c = passed_on _ _ _ c.from_residual.ensures.1
    (λ is. leads_refused _ _ _ _ _ (one_in_row c.args.grid) c.loop-row.invariant c.loop-row-test.true _ refl
    (c.in_err-add_one_in_row.ensures.refused is))

pub returns-in_err-add_one_in_row-clause-begun : goal.returns-in_err-add_one_in_row-clause-begun
returns-in_err-add_one_in_row-clause-begun c = passed_on _ _ _ c.from_residual.ensures.1
    (leads_cut _ _ _ _ _ (one_in_row c.args.grid) c.loop-row.invariant c.loop-row-test.true _ refl
    _ (c.in_err-add_one_in_row.ensures.begun))

pub loop-row-preserved : goal.loop-row-preserved
loop-row-preserved c =
    leads_next _ _ _ _ _ (one_in_row c.args.grid) c.loop-row.invariant c.loop-row-test.true _ refl
    _ c.in_ok-add_one_in_row.ensures.added

pub returns-clause-added : goal.returns-clause-added
returns-clause-added c = leads_end _ _ _ _ _ (one_in_row c.args.grid) c.loop-row.invariant c.loop-row-test.false
