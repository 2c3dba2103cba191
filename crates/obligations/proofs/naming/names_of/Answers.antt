use Rattle.obligations.proofs.NamingLemmas.{formula_step}
use Rattle.obligations.proofs.naming.names_of.Goals as goal

pub loop-formula-preserved : goal.loop-formula-preserved
loop-formula-preserved c = record {
  names = formula_step _ _ _ c.args.formulas.now c.loop-formula.formula-index c.formula-item.result c.loop-formula-test.true
      c.formula-item.is c.loop-formula.invariant.names c.in_ok-add_formula.ensures.names;
  rises = c.in_ok-add_formula.ensures.rises;
}
