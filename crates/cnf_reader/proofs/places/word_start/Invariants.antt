use Rattle.std.proofs.Common.{◌≤◌, length}
use Rattle.cnf_reader.specs.internal.Places.{GoesOn}
use Rattle.cnf_reader.proofs.places.word_start.Given as goal

abbrev pub invariant-loop-rest : goal.invariant-loop-rest
invariant-loop-rest l = record { goes_on : GoesOn l.fn.rest l.rest; within : length l.rest.text.now ≤ length l.fn.rest.text.now }

abbrev pub decreases-loop-rest : goal.decreases-loop-rest
decreases-loop-rest l = length l.rest.text.now
