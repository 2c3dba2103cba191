use Rattle.std.proofs.Common.{◌≡◌, ◌++◌, map, drop}
use Rattle.tsl_terms.specs.TermTree.{probe_tree}
use Rattle.branch_finder.specs.internal.Values.{probe_value, value_in}
use Rattle.branch_finder.proofs.values.add_values.Given as goal

-- what is added and what is still to come make the whole
abbrev pub invariant-loop-probe : goal.invariant-loop-probe
invariant-loop-probe l =
    l.values.items ++ map (probe_value (value_in l.known.cells.now l.known.values.now l.known.step)) (map probe_tree (drop l.probe-index l.predicates))
    ≡ l.fn.values.items ++ map (probe_value (value_in l.known.cells.now l.known.values.now l.known.step)) (map probe_tree l.predicates)
