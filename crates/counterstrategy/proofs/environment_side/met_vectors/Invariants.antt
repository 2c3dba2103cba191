use Rattle.std.proofs.Common.{◌≡◌, ◌++◌, filter, map}
use Rattle.cobuchi_automata.specs.Edges.{edge_tree}
use Rattle.bounded_encoding.specs.ClauseLists.{between, below}
use Rattle.counterstrategy.specs.DualVariables.{vectors_in_all}
use Rattle.counterstrategy.specs.DualEncoding.{meets_choices}
use Rattle.counterstrategy.specs.internal.DualAsking.{dual_tree}
use Rattle.counterstrategy.proofs.environment_side.met_vectors.Given as goal

abbrev pub invariant-loop-u : goal.invariant-loop-u
invariant-loop-u l = l.met.items
    ++ map (λ n. n) (filter (meets_choices (dual_tree l.fn.question) (edge_tree l.fn.edge))
    (between l.u (vectors_in_all (dual_tree l.fn.question))))
    ≡ map (λ n. n) (filter (meets_choices (dual_tree l.fn.question) (edge_tree l.fn.edge))
    (below (vectors_in_all (dual_tree l.fn.question))))
