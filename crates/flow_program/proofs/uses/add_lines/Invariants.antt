-- The uses so far, and then those of the parts that are left.
use Rattle.std.proofs.Common.{◌≡◌, ◌+◌, ◌++◌, map, drop}
use Rattle.flow_program.specs.Uses.{line_uses}
use Rattle.flow_program.specs.internal.UseView.{use_view}
use Rattle.flow_program.proofs.uses.add_lines.Given as goal

abbrev pub invariant-loop-index : goal.invariant-loop-index
invariant-loop-index g l =
    map use_view l.list.items ++ line_uses (g.U.UsesNames.uses l.text) (l.line + l.index) (map g.U.UsesNames.tree (drop l.index l.parts))
    ≡ map use_view l.fn.list.items ++ line_uses (g.U.UsesNames.uses l.text) l.line (map g.U.UsesNames.tree l.parts)
