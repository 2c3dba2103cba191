use Rattle.position_planes.proofs.TruthWords.{IsWordOf}
use Rattle.position_planes.proofs.positions.word_of.Given as goal

abbrev pub invariant-loop-i : goal.invariant-loop-i
invariant-loop-i l = IsWordOf l.truths l.start l.i l.word
