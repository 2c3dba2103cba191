use Rattle.std.proofs.Common.{◌≡◌, map, vec_len}
use Rattle.base_library.proofs.Lists.{with_front}
use Rattle.spec_syntax.specs.Syntax.{more_terms, listed_terms}
use Rattle.spec_syntax.specs.SyntaxView.{term_syntax, terms_syntax}
use Rattle.spec_syntax.proofs.trees.ReadTerms.from_vec.Given as goal

-- the terms that are left, and then those of the list
abbrev pub invariant-loop-term : goal.invariant-loop-term
invariant-loop-term l =
    with_front more_terms (map term_syntax l.terms.items) (terms_syntax l.list) ≡ listed_terms (map term_syntax l.fn.terms.items)

abbrev pub decreases-loop-term : goal.decreases-loop-term
decreases-loop-term l = vec_len l.terms
