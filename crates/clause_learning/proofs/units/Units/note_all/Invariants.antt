use Rattle.std.proofs.Common.{◌-◌, length}
use Rattle.clause_learning.proofs.Noting.{IsNoting}
use Rattle.clause_learning.proofs.units.Units.note_all.Given as goal

abbrev pub invariant-loop-self : goal.invariant-loop-self
invariant-loop-self l = IsNoting l.fn.trail l.fn.proof_log l.fn.self l.trail l.proof_log l.self

abbrev pub decreases-loop-self : goal.decreases-loop-self
decreases-loop-self l = length l.trail.entries - l.self.looked
