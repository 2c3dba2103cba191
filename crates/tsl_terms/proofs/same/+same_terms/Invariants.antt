use Rattle.std.proofs.Common.{◌≡◌, ◌≤◌}
use Rattle.tsl_terms.specs.declared.term.TermList.{size-TermList}
use Rattle.tsl_terms.specs.TermTree.{term_trees}
use Rattle.tsl_terms.specs.SameTree.{same_trees}
use Rattle.tsl_terms.proofs.same.+same_terms.Given as goal

-- the lists are equal where what is left of them is
abbrev pub invariant-same_terms-loop-left : goal.invariant-same_terms-loop-left
invariant-same_terms-loop-left l =
    (same_trees (term_trees l.left) (term_trees l.right) ≡ same_trees (term_trees l.fn.a) (term_trees l.fn.b))
    × (size-TermList l.left ≤ size-TermList l.initial.left)
