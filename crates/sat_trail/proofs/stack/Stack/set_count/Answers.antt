use Rattle.std.proofs.Common.{◌≤◌, subst, arith}
use Rattle.sat_trail.specs.States.{TrailState}
use Rattle.sat_trail.proofs.Soundness.{length_entries}
use Rattle.sat_trail.proofs.stack.Stack.set_count.Goals as goal
use Rattle.sat_trail.proofs.stack.Stack.set_count.Goals.{After-len}

few : (c : After-len) → c.len.result ≤ c.self.inside.variables
few c =
    let t = c.self.inside in
    omega (arith, length_entries t.variables t.clauses t.entries.items c.self.invariant.0.stand, c.len.ensures, t.entries.ok.0)

pub overflow_cast-result : goal.overflow_cast-result
overflow_cast-result c = omega (arith, few (goal.at.overflow_cast-result c).After-len, c.self.invariant.0.few_variables)

pub returns-clause-few : goal.returns-clause-few
returns-clause-few c = subst (λ (t : TrailState). c.len.result ≤ t.variables) c.self.view_is (few (goal.at.returns-clause-few c).After-len)
