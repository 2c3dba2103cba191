use Rattle.std.proofs.Common.{◌≡◌, ◌<◌, ◌++◌, drop, Some}
use Rattle.std.specs.Prelude.{option_to_list}
use Rattle.clause_core.specs.Literals.{Lit}
use Rattle.clause_core.specs.Propagation.{not_false}
use Rattle.refutation_check.specs.Checking.{effect_of_open}
use Rattle.refutation_check.proofs.marks.Marks.look_at.Given as goal

abbrev pub invariant-loop-literal : goal.invariant-loop-literal
invariant-loop-literal l = record {
  same : effect_of_open l.self.literals (option_to_list l.open ++ not_false l.self.literals (drop l.literal-index l.literals))
      ≡ effect_of_open l.self.literals (not_false l.self.literals l.literals);
  below : (m : Lit) → l.open ≡ Some m → m.index < l.self.variables;
}
