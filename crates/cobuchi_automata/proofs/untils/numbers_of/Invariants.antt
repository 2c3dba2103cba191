use Rattle.std.proofs.Common.{◌≡◌, ◌++◌, drop, map}
use Rattle.obligations.specs.Numbers.{lent_trees, formula_number}
use Rattle.cobuchi_automata.proofs.untils.numbers_of.Given as goal

-- the numbers so far, and then those of the formulas that are left
abbrev pub invariant-loop-formula : goal.invariant-loop-formula
invariant-loop-formula l =
    l.numbers.items ++ map (formula_number (lent_trees l.names)) (lent_trees (drop l.formula-index l.formulas))
    ≡ map (formula_number (lent_trees l.names)) (lent_trees l.formulas)
