use Rattle.std.proofs.Common.{◌≡◌, ◌+◌, ◌*◌, length, map}
use Rattle.program_listing.specs.ListingTree.{surface_tree}
use Rattle.program_listing.specs.internal.LineReading.{left_place, arguments, surface_in_brackets}
use Rattle.program_listing.proofs.Repeats.{joined}
use Rattle.program_listing.proofs.surfaces.+surface.Given as goal

-- each function calls those after it in this list at its number of levels, and the last one calls the first at a smaller one

abbrev pub decreases-bracketed : goal.decreases-bracketed
decreases-bracketed l = l.levels_left * 8 + 6

abbrev pub decreases-applied_surface : goal.decreases-applied_surface
decreases-applied_surface l = l.levels_left * 8 + 5

abbrev pub decreases-surface_with : goal.decreases-surface_with
decreases-surface_with l = l.levels_left * 8 + 4

abbrev pub decreases-arguments : goal.decreases-arguments
decreases-arguments l = l.levels_left * 8 + 3

abbrev pub decreases-spaced_argument : goal.decreases-spaced_argument
decreases-spaced_argument l = l.levels_left * 8 + 2

abbrev pub decreases-argument : goal.decreases-argument
decreases-argument l = l.levels_left * 8 + 1

abbrev pub decreases-surface_in_brackets : goal.decreases-surface_in_brackets
decreases-surface_in_brackets l = l.levels_left * 8

-- the arguments so far, and then those that are left
abbrev pub invariant-arguments-loop-alloc : goal.invariant-arguments-loop-alloc
invariant-arguments-loop-alloc l =
    joined (map surface_tree l.found.items) (arguments (surface_in_brackets l.levels_left) (left_place l.rest))
    ≡ arguments (surface_in_brackets l.levels_left) (left_place l.left)

abbrev pub decreases-arguments-loop-alloc : goal.decreases-arguments-loop-alloc
decreases-arguments-loop-alloc l = length l.rest.bytes.now
