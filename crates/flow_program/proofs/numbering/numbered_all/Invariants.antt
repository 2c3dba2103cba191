-- The parts so far, and then those that are left.
use Rattle.std.proofs.Common.{◌≡◌, ◌++◌, map, drop}
use Rattle.std.specs.Prelude.{option_map}
use Rattle.base_library.specs.Options.{all_there}
use Rattle.flow_program.proofs.numbering.numbered_all.Given as goal

abbrev pub invariant-loop-part : goal.invariant-loop-part
invariant-loop-part g l =
    option_map (λ ys. map g.P.GetsNumbers.made l.all ++ ys)
    (all_there (map (g.P.GetsNumbers.numbered l.names l.text) (map g.P.GetsNumbers.tree (drop l.part-index l.parts))))
    ≡ all_there (map (g.P.GetsNumbers.numbered l.names l.text) (map g.P.GetsNumbers.tree l.parts))
