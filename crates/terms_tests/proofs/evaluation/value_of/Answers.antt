use Rattle.std.proofs.Common.{[], ◌∷◌}
use Rattle.tsl_terms.specs.TermTree.{term_tree}
use Rattle.interp_core.specs.LeafValue.{leaf_value}
use Rattle.interp_core.specs.Wheel.{wheel}
use Rattle.interp_core.proofs.Total.{wheel_is_total, value_there, leaf_there}
use Rattle.terms_tests.proofs.evaluation.value_of.Goals as goal

pub evaluate-requires : goal.evaluate-requires
evaluate-requires c = record {
  had =
      value_there (wheel 1000) (wheel_is_total 1000) (3 ∷ 5 ∷ []) (leaf_value (λ v. v) c.in_ok-leaves.leaves)
      (leaf_there (λ v. v) c.in_ok-leaves.leaves (3 ∷ 5 ∷ []) c.in_ok-leaves.ensures) (term_tree c.args.term.now) c.requires;
}
