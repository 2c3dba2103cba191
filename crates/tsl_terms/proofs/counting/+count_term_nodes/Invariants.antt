use Rattle.std.proofs.Common.{◌≡◌, ◌+◌, ◌-◌, ◌^◌, ◌≤◌, min}
use Rattle.tsl_terms.specs.declared.term.TermList.{size-TermList}
use Rattle.tsl_terms.specs.TermTree.{term_trees}
use Rattle.tsl_terms.specs.Nodes.{nodes_of_terms}
use Rattle.tsl_terms.proofs.counting.+count_term_nodes.Given as goal

-- the count so far, and then that of the terms that are left
abbrev pub invariant-term_list_count-loop-rest : goal.invariant-term_list_count-loop-rest
invariant-term_list_count-loop-rest l =
    (min (l.count + nodes_of_terms (term_trees l.rest)) (2 ^ 64 - 1) ≡ min (nodes_of_terms (term_trees l.fn.terms)) (2 ^ 64 - 1))
    × (l.count ≤ 2 ^ 64 - 1)
    × (size-TermList l.rest ≤ size-TermList l.initial.rest)
