use Rattle.std.proofs.Common.{◌≡◌, drop}
use Rattle.std.specs.List.{list_all}
use Rattle.loop_acceptance.specs.internal.Product.{row_lists, is_short}
use Rattle.loop_acceptance.proofs.rows.are_short.Given as goal

-- the lists gone through are short
abbrev pub invariant-loop-row : goal.invariant-loop-row
invariant-loop-row l = list_all is_short (row_lists (drop l.row-index l.rows)) ≡ list_all is_short (row_lists l.rows)
