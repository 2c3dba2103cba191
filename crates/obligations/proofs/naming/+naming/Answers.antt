use Rattle.std.proofs.Common.{◌∙◌, rules, sym, ap}
use Rattle.ltl_formula.specs.declared.formula.LtlList.{the_lemmas}
use Rattle.ltl_formula.specs.LtlTree.{more_formulas, ltl_tree, ltl_trees}
use Rattle.obligations.proofs.NamingLemmas.{rest_step}
use Rattle.obligations.proofs.naming.+naming.Goals as goal

pub add_obligations_of_all-loop-rest-preserved : goal.add_obligations_of_all-loop-rest-preserved
add_obligations_of_all-loop-rest-preserved t c = record {
  names = rest_step _ _ _ (ltl_tree c.deref.result.now) _ (ltl_trees c.deref-rest.result.now)
      (ap ltl_trees c.in-More.is ∙ (λ i. more_formulas (ltl_tree (sym c.deref.ensures i)) (ltl_trees (sym c.deref-rest.ensures i))))
      c.loop-rest.invariant.names c.in_ok-add_obligations.ensures.names;
  rises = c.in_ok-add_obligations.ensures.rises;
  left = search (rules, the_lemmas);
}
