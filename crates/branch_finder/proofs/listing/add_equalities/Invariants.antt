use Rattle.std.proofs.Common.{◌≡◌, ◌++◌, map, drop}
use Rattle.tsl_terms.specs.TermTree.{probe_tree}
use Rattle.tsl_terms.specs.WindowTree.{equated_tree}
use Rattle.branch_finder.specs.internal.Paths.{equalities_in}
use Rattle.branch_finder.proofs.listing.add_equalities.Given as goal

-- what is added and what is still to come make the whole
abbrev pub invariant-loop-bit : goal.invariant-loop-bit
invariant-loop-bit l =
    map equated_tree l.equalities.items ++ equalities_in l.print l.bit l.offset (map probe_tree (drop l.bit l.predicates))
    ≡ map equated_tree l.fn.equalities.items ++ equalities_in l.print 0 l.offset (map probe_tree l.predicates)
