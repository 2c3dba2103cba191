use Rattle.std.proofs.Common.{◌≡◌, ℕ, ◌||◌, map, vec_len}
use Rattle.ltl_formula.specs.LtlTree.{ltl_tree, ltl_formulas_of}
use Rattle.ltl_formula.specs.LetterLoop.{LetterLoop, holds_any}
use Rattle.ltl_rewriting.specs.internal.Members.{any_apart}
use Rattle.ltl_rewriting.proofs.parting.merged_any.Given as goal

-- the members that are left, and those that were put
abbrev pub invariant-loop-member : goal.invariant-loop-member
invariant-loop-member l = (loop : LetterLoop) (i : ℕ) →
    (holds_any loop (ltl_formulas_of (map ltl_tree l.members.items)) i
    || any_apart loop (map ltl_tree l.awaited.items) (map ltl_tree l.others.items) i)
    ≡ holds_any loop (ltl_formulas_of (map ltl_tree l.fn.members.items)) i

abbrev pub decreases-loop-member : goal.decreases-loop-member
decreases-loop-member l = vec_len l.members
