use Rattle.std.proofs.Common.{◌≡◌, ◌++◌, map}
use Rattle.tsl_terms.specs.declared.operator.UnaryOperator.TheVariants.{Globally}
use Rattle.tsl_terms.specs.FormulaTree.{unary, formula_tree, member_trees}
use Rattle.tsl_terms.proofs.joining.section.Given as goal

-- the formulas so far, and then those that are left
abbrev pub invariant-loop-rest : goal.invariant-loop-rest
invariant-loop-rest l =
    map formula_tree l.formulas.items ++ map (unary Globally) (member_trees l.rest) ≡ member_trees l.first
    ++ map (unary Globally) (member_trees l.always)
