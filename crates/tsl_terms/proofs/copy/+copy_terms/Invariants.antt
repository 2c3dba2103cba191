use Rattle.std.proofs.Common.{◌≡◌, ◌≤◌, map}
use Rattle.base_library.proofs.Lists.{with_front}
use Rattle.tsl_terms.specs.declared.term.TermList.{size-TermList}
use Rattle.tsl_terms.specs.TermTree.{more_terms, term_tree, term_trees}
use Rattle.tsl_terms.proofs.copy.+copy_terms.Given as goal

-- the copies, and then the terms that are left
abbrev pub invariant-copy_terms-loop-rest : goal.invariant-copy_terms-loop-rest
invariant-copy_terms-loop-rest l =
    (with_front more_terms (map term_tree l.copies.items) (term_trees l.rest) ≡ term_trees l.fn.terms) ×
    (size-TermList l.rest ≤ size-TermList l.initial.rest)
