use Rattle.std.proofs.Common.{◌≡◌, ◌++◌, map, drop}
use Rattle.name_resolution.specs.Heads.{is_name}
use Rattle.name_resolution.specs.Occurrences.{parameter_name}
use Rattle.name_resolution.specs.OccurrenceView.{occurrence_of}
use Rattle.name_resolution.proofs.walk.add_parameters.Given as goal

-- the parameters so far, and then those that are left
abbrev pub invariant-loop-parameter : goal.invariant-loop-parameter
invariant-loop-parameter l =
    map occurrence_of l.list.items
    ++ map (parameter_name (is_name l.heads) (is_name l.repeated)) (map (λ p. p.now) (drop l.parameter-index l.parameters))
    ≡ map occurrence_of l.fn.list.items
    ++ map (parameter_name (is_name l.heads) (is_name l.repeated)) (map (λ p. p.now) l.parameters)
