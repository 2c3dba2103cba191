use Rattle.std.proofs.Common.{ℕ, ◌+◌, ap}
use Rattle.bounded_encoding.specs.SimpleClauses.{exactly_one}
use Rattle.bounded_encoding.specs.Grids.{cell_index}
use Rattle.bounded_encoding.proofs.Adding.{passed_on}
use Rattle.bounded_encoding.proofs.Begun.{leads_first, leads_next, leads_refused, leads_cut, leads_end}
use Rattle.bounded_encoding.proofs.grid.add_one_in_row.Goals as goal

pub loop-column-init : goal.loop-column-init
loop-column-init c = leads_first _ _

pub returns-in_err-add_exactly_one-clause-refused : goal.returns-in_err-add_exactly_one-clause-refused
returns-in_err-add_exactly_one-clause-refused c = passed_on _ _ _ c.from_residual.ensures.1
    (λ is. leads_refused _ _ _ _ _ (λ column. exactly_one (cell_index c.args.grid c.args.row column) 0 c.args.grid.width)
    c.loop-column.invariant c.loop-column-test.true _
    (ap (λ (b : ℕ). exactly_one (λ t. b + t) 0 c.args.grid.width) c.cell_base-base.ensures.value)
    (c.in_err-add_exactly_one.ensures.refused is))

pub returns-in_err-add_exactly_one-clause-begun : goal.returns-in_err-add_exactly_one-clause-begun
returns-in_err-add_exactly_one-clause-begun c = passed_on _ _ _ c.from_residual.ensures.1
    (leads_cut _ _ _ _ _ (λ column. exactly_one (cell_index c.args.grid c.args.row column) 0 c.args.grid.width)
    c.loop-column.invariant c.loop-column-test.true _
    (ap (λ (b : ℕ). exactly_one (λ t. b + t) 0 c.args.grid.width) c.cell_base-base.ensures.value)
    _ (c.in_err-add_exactly_one.ensures.begun))

pub loop-column-preserved : goal.loop-column-preserved
loop-column-preserved c =
    leads_next _ _ _ _ _ (λ column. exactly_one (cell_index c.args.grid c.args.row column) 0 c.args.grid.width)
    c.loop-column.invariant c.loop-column-test.true _
    (ap (λ (b : ℕ). exactly_one (λ t. b + t) 0 c.args.grid.width) c.cell_base-base.ensures.value)
    _ c.in_ok-add_exactly_one.ensures.added

pub returns-clause-added : goal.returns-clause-added
returns-clause-added c = leads_end _ _ _ _ _ (λ column. exactly_one (cell_index c.args.grid c.args.row column) 0 c.args.grid.width)
    c.loop-column.invariant c.loop-column-test.false
