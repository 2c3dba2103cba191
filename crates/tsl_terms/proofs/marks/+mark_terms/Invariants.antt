use Rattle.std.proofs.Common.{◌≡◌, ◌≤◌}
use Rattle.tsl_terms.specs.declared.term.TermList.{size-TermList}
use Rattle.tsl_terms.specs.TermTree.{term_trees}
use Rattle.tsl_terms.specs.internal.Marked.{marked}
use Rattle.tsl_terms.specs.Signals.{some_term_reads}
use Rattle.tsl_terms.proofs.marks.+mark_terms.Given as goal

-- the marks so far, and then those of the terms that are left
abbrev pub invariant-mark_terms-loop-rest : goal.invariant-mark_terms-loop-rest
invariant-mark_terms-loop-rest l =
    (marked (λ s. some_term_reads s (term_trees l.rest)) l.read.items
    ≡ marked (λ s. some_term_reads s (term_trees l.fn.terms)) l.fn.read.items)
    × (size-TermList l.rest ≤ size-TermList l.initial.rest)
