use Rattle.std.proofs.Common.{◌≡◌, length}
use Rattle.clause_learning.proofs.units.Units.renew.Given as goal

abbrev pub invariant-loop-number : goal.invariant-loop-number
invariant-loop-number l = record {
  one_each : length l.self.numbers.items ≡ l.trail.variables;
  rest : l.self ≡ record l.initial.self { numbers = l.self.numbers };
}
