use Rattle.std.proofs.Common.{◌≡◌, length, map}
use Rattle.program_listing.specs.internal.LineReading.{left_place, repeat}
use Rattle.program_listing.proofs.Repeats.{joined}
use Rattle.program_listing.proofs.repeated.repeated.Given as goal

-- the parts so far, and then those that are left
abbrev pub invariant-loop-alloc : goal.invariant-loop-alloc
invariant-loop-alloc g l =
    joined (map g.T.Part.tree l.found.items) (repeat g.T.Part.stands g.T.Part.reader (left_place l.rest))
    ≡ repeat g.T.Part.stands g.T.Part.reader (left_place l.left)

abbrev pub decreases-loop-alloc : goal.decreases-loop-alloc
decreases-loop-alloc g l = length l.rest.bytes.now
