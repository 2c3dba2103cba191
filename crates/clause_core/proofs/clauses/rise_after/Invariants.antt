use Rattle.std.proofs.Common.{◌∷◌, drop}
use Rattle.clause_core.specs.Clauses.{IsIncreasing}
use Rattle.clause_core.proofs.clauses.rise_after.Given as goal

-- where those left rise after the last one, all do after the first one
abbrev pub invariant-loop-literal : goal.invariant-loop-literal
invariant-loop-literal l = IsIncreasing (l.last ∷ drop l.literal-index l.literals) → IsIncreasing (l.fn.first ∷ l.literals)
