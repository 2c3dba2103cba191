use Rattle.std.proofs.Common.{map, rules, ◌∙◌}
use Rattle.std.proofs.lemmas.Result.{IfOk-weaker}
use Rattle.tsl_terms.specs.FormulaTree.{formula_tree, formula_trees}
use Rattle.spec_syntax.specs.declared.trees.ReadFormulas.{the_lemmas}
use Rattle.tsl_reader.specs.Naming.{numbered_members}
use Rattle.spec_syntax.specs.SyntaxView.{formula_syntax, formulas_syntax}
use Rattle.tsl_reader.proofs.NumberLemmas.{members_more, members_all}
use Rattle.tsl_reader.proofs.numbering.+number_formulas.Goals as goal

pub numbered_members-loop-rest-preserved : goal.numbered_members-loop-rest-preserved
numbered_members-loop-rest-preserved t c = record {
  numbered =
      members_more c.args.names.now c.loop-rest.trees.items _ c.in_ok-tree.tree (formula_syntax c.deref.result.now)
      (formulas_syntax c.deref-rest.result.now)
      c.in_ok-push.ensures.items c.in_ok-tree.ensures
      ∙ rw (c.deref.ensures, c.deref-rest.ensures) (rw c.in-More.is at c.loop-rest.invariant.numbered);
  size = search (rules, the_lemmas);
}

pub numbered_members-returns : goal.numbered_members-returns
numbered_members-returns t c =
    IfOk-weaker c.from_vec.result _ _
    (λ list is. members_all (map formula_tree c.loop-rest.trees.items)
    (numbered_members c.args.names.now (formulas_syntax c.args.formulas.now)) (formula_trees list)
    (rw c.in_default.is at c.loop-rest.invariant.numbered) is)
    c.from_vec.ensures
