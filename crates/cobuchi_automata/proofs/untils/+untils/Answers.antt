use Rattle.std.proofs.Common.{◌∙◌, rules, sym, ap}
use Rattle.ltl_formula.specs.declared.formula.LtlList.{the_lemmas}
use Rattle.ltl_formula.specs.LtlTree.{more_formulas, ltl_tree, ltl_trees}
use Rattle.cobuchi_automata.proofs.UntilLemmas.{rest_step}
use Rattle.cobuchi_automata.proofs.untils.+untils.Goals as goal

pub add_untils_of_all-loop-rest-preserved : goal.add_untils_of_all-loop-rest-preserved
add_untils_of_all-loop-rest-preserved t c = record {
  untils = rest_step _ _ _ (ltl_tree c.deref.result.now) _ (ltl_trees c.deref-rest.result.now)
      (ap ltl_trees c.in-More.is ∙ (λ i. more_formulas (ltl_tree (sym c.deref.ensures i)) (ltl_trees (sym c.deref-rest.ensures i))))
      c.loop-rest.invariant.untils c.in_ok-add_untils.ensures;
  left = search (rules, the_lemmas);
}
