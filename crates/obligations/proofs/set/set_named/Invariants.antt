use Rattle.std.proofs.Common.{◌≡◌, ◌++◌, drop, map}
use Rattle.obligations.specs.Named.{formula_named}
use Rattle.ltl_formula.specs.LtlTree.{ltl_tree}
use Rattle.obligations.specs.Numbers.{lent_trees}
use Rattle.obligations.proofs.set.set_named.Given as goal

-- the formulas so far, and then those of the numbers that are left
abbrev pub invariant-loop-number : goal.invariant-loop-number
invariant-loop-number l =
    map ltl_tree l.formulas.items ++ map (formula_named (lent_trees l.names)) (drop l.number-index l.numbers)
    ≡ map (formula_named (lent_trees l.names)) l.numbers
