use Rattle.std.proofs.Common.{◌≤◌, length, subst, arith}
use Rattle.sat_trail.specs.States.{TrailState}
use Rattle.sat_trail.proofs.Soundness.{level_few}
use Rattle.sat_trail.proofs.stack.Stack.level.Goals as goal

pub returns-clause-few : goal.returns-clause-few
returns-clause-few c =
    let inside = c.self.inside in
    let sound = c.self.invariant.0 in
    subst (λ (t : TrailState). inside.level ≤ length t.entries) c.self.view_is
    (omega (arith, sound.level_reached, level_few inside.variables inside.clauses inside.entries.items sound.stand))
