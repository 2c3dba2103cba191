use Rattle.position_planes.proofs.TruthWords.{HasWords}
use Rattle.position_planes.proofs.positions.plane_of.Given as goal

-- the words so far
abbrev pub invariant-loop-place : goal.invariant-loop-place
invariant-loop-place l = HasWords l.truths l.plane.items l.place
