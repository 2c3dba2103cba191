-- The list that is left is no deeper than the one that was handed in.
use Rattle.std.proofs.Common.{◌≤◌}
use Rattle.tsl_terms.specs.declared.term.TermList.{size-TermList}
use Rattle.tsl_terms.proofs.+terms.Given as goal

abbrev pub invariant-term::TermList::drop-loop-self : goal.invariant-term::TermList::drop-loop-self
invariant-term::TermList::drop-loop-self l = size-TermList l.self ≤ size-TermList l.fn.self
