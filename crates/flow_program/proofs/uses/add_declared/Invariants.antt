-- The uses so far, and then those of the names that are left.
use Rattle.std.proofs.Common.{◌≡◌, ◌+◌, ◌++◌, map, drop}
use Rattle.flow_program.specs.Uses.{declared_uses}
use Rattle.flow_program.specs.internal.UseView.{use_view}
use Rattle.flow_program.proofs.uses.add_declared.Given as goal

abbrev pub invariant-loop-index : goal.invariant-loop-index
invariant-loop-index l =
    map use_view l.list.items ++ declared_uses l.text (l.line + l.index) (drop l.index l.names)
    ≡ map use_view l.fn.list.items ++ declared_uses l.text l.line l.names
