use Rattle.std.proofs.Common.{◌∙◌}
use Rattle.ltl_formula.proofs.DerivedOrder.{order_is}
use Rattle.ltl_formula.proofs.formula.compare.Goals as goal

pub returns : goal.returns
returns c = c.cmp.ensures ∙ order_is c.args.left.now c.args.right.now
