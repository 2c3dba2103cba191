use Rattle.std.proofs.Common.{◌≡◌, length}
use Rattle.logic_values.proofs.clauses.clauses_of.Given as goal

abbrev pub invariant-loop-numbers : goal.invariant-loop-numbers
invariant-loop-numbers l = length l.clauses.items ≡ l.numbers-index
