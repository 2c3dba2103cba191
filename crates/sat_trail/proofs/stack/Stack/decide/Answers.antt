use Rattle.std.proofs.Common.{ℕ, ◌+◌, None, sym, subst, arith}
use Rattle.sat_trail.specs.Entries.{entry_with, MayStand}
use Rattle.sat_trail.proofs.Soundness.{length_entries}
use Rattle.sat_trail.proofs.TrailSteps.{decided_may_stand}
use Rattle.sat_trail.proofs.stack.Stack.decide.Goals as goal

pub overflow_add-level : goal.overflow_add-level
overflow_add-level c =
    let t = c.args.self.now in
    let sound = c.level-level.ensures.sound in
    omega (arith, c.level-level.ensures.few, length_entries t.variables t.clauses t.entries sound.stand, sound.few_variables)

pub set-requires : goal.set-requires
set-requires c =
    let t = c.args.self.now in
    subst (λ (n : ℕ). MayStand t.variables t.clauses t.entries (entry_with c.args.literal (n + 1) None)) (sym c.level-level.ensures.value)
    (decided_may_stand t c.level-level.ensures.sound c.args.literal c.requires.over c.requires.unassigned)
