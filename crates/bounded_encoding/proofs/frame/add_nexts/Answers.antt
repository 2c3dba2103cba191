use Rattle.std.specs.Prelude.{OnOk}
use Rattle.std.proofs.Common.{◌≡◌, subst}
use Rattle.bounded_encoding.specs.declared.grid.Grid.{Grid}
use Rattle.bounded_encoding.specs.Grids.{one_in_each}
use Rattle.bounded_encoding.specs.Made.{with_clauses}
use Rattle.bounded_encoding.specs.Refusing.{Refuses}
use Rattle.bounded_encoding.proofs.frame.add_nexts.Goals as goal

pub returns-clause-added : goal.returns-clause-added
returns-clause-added c =
    subst (λ (g : Grid). OnOk c.add_one_in_each.result (c.add_one_in_each.new.out ≡ with_clauses c.args.out.now (one_in_each g)))
    c.next_grid.ensures.is c.add_one_in_each.ensures.added

pub returns-clause-refused : goal.returns-clause-refused
returns-clause-refused c =
    subst (λ (g : Grid). Refuses c.add_one_in_each.result (with_clauses c.args.out.now (one_in_each g))) c.next_grid.ensures.is
    c.add_one_in_each.ensures.refused
