use Rattle.std.proofs.Common.{◌≡◌, ◌≤◌}
use Rattle.tsl_terms.specs.declared.term.TermList.{size-TermList}
use Rattle.tsl_terms.specs.TermTree.{term_trees}
use Rattle.tsl_terms.specs.Signals.{some_term_reads}
use Rattle.tsl_terms.proofs.choosing.+term_reads.Given as goal

-- no term so far reads the signal
abbrev pub invariant-some_term_reads-loop-rest : goal.invariant-some_term_reads-loop-rest
invariant-some_term_reads-loop-rest l =
    (some_term_reads l.signal (term_trees l.rest) ≡ some_term_reads l.signal (term_trees l.fn.terms))
    × (size-TermList l.rest ≤ size-TermList l.initial.rest)
