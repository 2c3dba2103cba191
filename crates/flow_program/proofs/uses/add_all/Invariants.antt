-- The uses so far, and then those of the parts that are left.
use Rattle.std.proofs.Common.{◌≡◌, ◌++◌, map, drop}
use Rattle.std.specs.Prelude.{flat_map}
use Rattle.flow_program.specs.internal.UseView.{use_view}
use Rattle.flow_program.proofs.uses.add_all.Given as goal

abbrev pub invariant-loop-part : goal.invariant-loop-part
invariant-loop-part g l =
    map use_view l.list.items ++ flat_map (g.U.UsesNames.uses l.text l.line) (map g.U.UsesNames.tree (drop l.part-index l.parts))
    ≡ map use_view l.fn.list.items ++ flat_map (g.U.UsesNames.uses l.text l.line) (map g.U.UsesNames.tree l.parts)
