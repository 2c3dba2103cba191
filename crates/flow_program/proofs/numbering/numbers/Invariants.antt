-- The numbers so far, and then those of the names that are left.
use Rattle.std.proofs.Common.{◌≡◌, map, drop}
use Rattle.base_library.specs.Options.{all_there}
use Rattle.std.specs.Prelude.{◌++◌, option_map}
use Rattle.flow_program.specs.internal.Numbering.{numbered}
use Rattle.flow_program.proofs.numbering.numbers.Given as goal

abbrev pub invariant-loop-place : goal.invariant-loop-place
invariant-loop-place l =
    option_map (λ ys. l.ids ++ ys) (all_there (map (numbered l.names l.text) (drop l.place-index l.places)))
    ≡ all_there (map (numbered l.names l.text) l.places)
