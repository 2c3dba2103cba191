use Rattle.std.proofs.Common.{◌≡◌, false, filter, slice_get}
use Rattle.std.specs.Option.{option_map_or}
use Rattle.base_library.specs.Numbers.{numbers_from}
use Rattle.lane_planes.specs.Planes.{is_match}
use Rattle.branch_finder.proofs.linking.vectors_with.Given as goal

-- those gone through whose masks match
abbrev pub invariant-loop-vector : goal.invariant-loop-vector
invariant-loop-vector l =
    l.vectors.items ≡ filter (λ v. option_map_or (is_match l.set l.set) (slice_get l.masks v) false) (numbers_from 0 l.vector)
