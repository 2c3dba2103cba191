use Rattle.std.proofs.Common.{◌≡◌, None, replicate}
use Rattle.annotation_check.proofs.stepping.KeptSteps.new.Given as goal

abbrev pub invariant-loop-pair : goal.invariant-loop-pair
invariant-loop-pair l = l.of_pairs.items ≡ replicate l._pair None
