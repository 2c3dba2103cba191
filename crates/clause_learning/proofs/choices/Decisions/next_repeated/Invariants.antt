use Rattle.std.proofs.Common.{◌≡◌, length}
use Rattle.std.specs.List.{Contains}
use Rattle.clause_core.specs.Literals.{Lit}
use Rattle.clause_learning.proofs.choices.Decisions.next_repeated.Given as goal

abbrev pub invariant-loop-literal : goal.invariant-loop-literal
invariant-loop-literal l = record {
  rest : l.self ≡ record l.fn.self { repeated = l.self.repeated };
  among : (x : Lit) → Contains l.self.repeated.items x → Contains l.fn.self.repeated.items x;
}

abbrev pub decreases-loop-literal : goal.decreases-loop-literal
decreases-loop-literal l = length l.self.repeated.items
