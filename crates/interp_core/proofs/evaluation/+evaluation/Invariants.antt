use Rattle.std.proofs.Common.{◌≡◌, ◌≤◌, ◌++◌, map}
use Rattle.std.specs.Prelude.{option_map}
use Rattle.tsl_terms.specs.declared.term.TermList.{size-TermList}
use Rattle.tsl_terms.specs.TermTree.{term_trees}
use Rattle.tsl_terms.specs.Value.{values}
use Rattle.interp_core.specs.LeafValue.{leaf_value}
use Rattle.interp_core.proofs.evaluation.+evaluation.Given as goal

-- the values that were found, and then those of the terms that are left
abbrev pub invariant-push_values-loop-rest : goal.invariant-push_values-loop-rest
invariant-push_values-loop-rest g l =
    (option_map (λ vs. map g.A.Algebra.seen l.found.items ++ vs)
    (values (g.A.Algebra.meanings l.algebra) (leaf_value g.A.Algebra.seen l.leaves) (term_trees l.rest))
    ≡ option_map (λ vs. map g.A.Algebra.seen l.initial.found.items ++ vs)
    (values (g.A.Algebra.meanings l.fn.algebra) (leaf_value g.A.Algebra.seen l.fn.leaves) (term_trees l.fn.terms))) ×
    (size-TermList l.rest ≤ size-TermList l.initial.rest)
