use Rattle.std.proofs.Common.{◌∙◌, sym, ap}
use Rattle.std.specs.List.{list_all}
use Rattle.loop_acceptance.specs.internal.Product.{row_lists, is_short}
use Rattle.loop_acceptance.proofs.rows.few_edges_by_state.Goals as goal

pub returns-clause-short : goal.returns-clause-short
returns-clause-short c =
    ap (λ rows. list_all is_short (row_lists rows)) (sym c.deref.ensures.value) ∙ sym c.are_short.ensures ∙ c.if-not-are_short.false
