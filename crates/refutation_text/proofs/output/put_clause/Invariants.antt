-- What is written and what is left make the whole.
use Rattle.std.proofs.Common.{◌≡◌, ◌++◌, drop}
use Rattle.refutation_text.specs.Written.{clause_line}
use Rattle.refutation_text.proofs.output.put_clause.Given as goal

abbrev pub invariant-loop-literal : goal.invariant-loop-literal
invariant-loop-literal l = l.out.items ++ clause_line (drop l.literal-index l.literals) ≡ l.fn.out.items ++ clause_line l.literals
