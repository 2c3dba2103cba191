use Rattle.std.proofs.Common.{◌≡◌, ◌++◌, map}
use Rattle.tsl_terms.specs.TermTree.{term_tree, term_trees, terms_in}
use Rattle.branch_finder.proofs.arguments.add_terms.Given as goal

-- what is added and what is still to come make the whole
abbrev pub invariant-loop-rest : goal.invariant-loop-rest
invariant-loop-rest l =
    map term_tree l.copies.items ++ terms_in (term_trees l.rest) ≡ map term_tree l.fn.copies.items ++ terms_in (term_trees l.fn.terms)
