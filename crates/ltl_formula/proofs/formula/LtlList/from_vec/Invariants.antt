use Rattle.std.proofs.Common.{◌≡◌, map, vec_len}
use Rattle.ltl_formula.specs.LtlTree.{ltl_tree, ltl_trees, ltl_formulas_of}
use Rattle.ltl_formula.proofs.ListLemmas.{with_front}
use Rattle.ltl_formula.proofs.formula.LtlList.from_vec.Given as goal

-- the formulas that are left, and then those of the list
abbrev pub invariant-loop-formula : goal.invariant-loop-formula
invariant-loop-formula l =
    with_front (map ltl_tree l.formulas.items) (ltl_trees l.list) ≡ ltl_formulas_of (map ltl_tree l.fn.formulas.items)

abbrev pub decreases-loop-formula : goal.decreases-loop-formula
decreases-loop-formula l = vec_len l.formulas
