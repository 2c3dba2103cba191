use Rattle.std.proofs.Common.{map}
use Rattle.tsl_terms.specs.Value.{value}
use Rattle.tsl_terms.specs.TermTree.{term_tree}
use Rattle.interp_core.specs.LeafValue.{leaf_value}
use Rattle.table_runner.proofs.Gathering.{and_then_all, IsGathered}
use Rattle.table_runner.proofs.acting.next_values.Given as goal

abbrev pub invariant-loop-term : goal.invariant-loop-term
invariant-loop-term g l =
    IsGathered (λ t. value (g.A.Algebra.meanings l.algebra) (leaf_value g.A.Algebra.seen l.leaves) (term_tree t)) l.terms
    (and_then_all (map g.A.Algebra.seen l.row)
    (map (λ t. value (g.A.Algebra.meanings l.algebra) (leaf_value g.A.Algebra.seen l.leaves) (term_tree t)) l.terms))
    l.term-index (map g.A.Algebra.seen l.values.items)
