use Rattle.std.proofs.Common.{arith, ap, refl}
use Rattle.clause_learning.specs.declared.units.Units.{Units}
use Rattle.clause_learning.specs.Units.HaveNoted.{none}
use Rattle.clause_learning.proofs.Noting.{noting_more}
use Rattle.clause_learning.proofs.units.Units.note_all.Goals as goal

pub loop-self-init : goal.loop-self-init
loop-self-init c = record { count = 0; noted = none; counted = omega arith; most = refl; ready = c.requires }

pub loop-self-preserved : goal.loop-self-preserved
loop-self-preserved c =
    let after = c.in_ok-note_entry.ensures in
    noting_more c.args.trail.now c.args.proof_log.now c.args.self.now c.loop-self.trail c.loop-self.proof_log c.loop-self.self
    c.note_entry.new.trail c.note_entry.new.proof_log c.note_entry.new.self after.noted c.loop-self.invariant after.units
    (ap (λ (u : Units). u.most) after.rest) after.added
