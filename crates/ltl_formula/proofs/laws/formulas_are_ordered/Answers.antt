use Rattle.ltl_formula.proofs.LtlOrderLaws.{tree_cmp_total, equal_trees}
use Rattle.ltl_formula.proofs.laws.formulas_are_ordered.Goals as goal

pub returns-clause-total : goal.returns-clause-total
returns-clause-total c = tree_cmp_total

pub returns-clause-equal : goal.returns-clause-equal
returns-clause-equal c = equal_trees
