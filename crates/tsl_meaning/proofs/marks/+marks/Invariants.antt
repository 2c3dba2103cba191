use Rattle.std.proofs.Common.{◌≤◌}
use Rattle.tsl_terms.specs.declared.term.TermList.{size-TermList}
use Rattle.tsl_meaning.proofs.marks.+marks.Given as goal

-- what is left is no more than all
abbrev pub invariant-mark_of_terms-loop-rest : goal.invariant-mark_of_terms-loop-rest
invariant-mark_of_terms-loop-rest l = size-TermList l.rest ≤ size-TermList l.initial.rest
