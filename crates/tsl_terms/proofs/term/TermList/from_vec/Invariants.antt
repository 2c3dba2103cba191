use Rattle.std.proofs.Common.{◌≡◌, map, vec_len}
use Rattle.base_library.proofs.Lists.{with_front}
use Rattle.tsl_terms.specs.TermTree.{more_terms, term_tree, term_trees, terms_of}
use Rattle.tsl_terms.proofs.term.TermList.from_vec.Given as goal

-- the terms that are left, and then those of the list
abbrev pub invariant-loop-term : goal.invariant-loop-term
invariant-loop-term l =
    with_front more_terms (map term_tree l.terms.items) (term_trees l.list) ≡ terms_of (map term_tree l.fn.terms.items)

abbrev pub decreases-loop-term : goal.decreases-loop-term
decreases-loop-term l = vec_len l.terms
