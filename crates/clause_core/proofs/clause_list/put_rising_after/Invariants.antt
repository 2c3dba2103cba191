use Rattle.std.proofs.Common.{◌≡◌, ◌++◌, ◌∷◌, take, drop}
use Rattle.clause_core.specs.Clauses.{IsIncreasing}
use Rattle.clause_core.proofs.clause_list.put_rising_after.Given as goal

-- those before this one were appended; where those left rise after the last one, all do after the first one
abbrev pub invariant-loop-literal : goal.invariant-loop-literal
invariant-loop-literal l = record {
  written : l.out.items ≡ l.fn.out.items ++ take l.literal-index l.literals;
  rising : IsIncreasing (l.last ∷ drop l.literal-index l.literals) → IsIncreasing (l.fn.first ∷ l.literals);
}
