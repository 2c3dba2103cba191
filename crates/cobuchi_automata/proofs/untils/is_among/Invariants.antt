use Rattle.std.proofs.Common.{◌≡◌, drop}
use Rattle.base_library.specs.Kept.{is_kept}
use Rattle.ltl_formula.specs.LtlTree.{ltl_tree}
use Rattle.obligations.specs.Expansion.{same_formula}
use Rattle.obligations.specs.Numbers.{lent_trees}
use Rattle.cobuchi_automata.proofs.untils.is_among.Given as goal

-- it stands among all where it stands among those that are left
abbrev pub invariant-loop-other : goal.invariant-loop-other
invariant-loop-other l =
    is_kept same_formula (lent_trees (drop l.other-index l.formulas)) (ltl_tree l.formula)
    ≡ is_kept same_formula (lent_trees l.formulas) (ltl_tree l.formula)
