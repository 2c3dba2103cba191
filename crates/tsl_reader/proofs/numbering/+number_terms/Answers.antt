use Rattle.std.proofs.Common.{map, rules, ◌∙◌}
use Rattle.std.proofs.lemmas.Result.{IfOk-weaker}
use Rattle.tsl_terms.specs.TermTree.{term_tree, term_trees}
use Rattle.spec_syntax.specs.declared.trees.ReadTerms.{the_lemmas}
use Rattle.tsl_reader.specs.Naming.{numbered_terms}
use Rattle.spec_syntax.specs.SyntaxView.{term_syntax, terms_syntax}
use Rattle.tsl_terms.proofs.NumberedTerms.{numbered_all}
use Rattle.tsl_reader.proofs.NumberLemmas.{numbered_more}
use Rattle.tsl_reader.proofs.numbering.+number_terms.Goals as goal

pub numbered_terms-loop-rest-preserved : goal.numbered_terms-loop-rest-preserved
numbered_terms-loop-rest-preserved t c = record {
  numbered =
      numbered_more c.args.names.now c.loop-rest.trees.items _ c.in_ok-tree.tree (term_syntax c.deref.result.now)
      (terms_syntax c.deref-rest.result.now)
      c.in_ok-push.ensures.items c.in_ok-tree.ensures
      ∙ rw (c.deref.ensures, c.deref-rest.ensures) (rw c.in-More.is at c.loop-rest.invariant.numbered);
  size = search (rules, the_lemmas);
}

pub numbered_terms-returns : goal.numbered_terms-returns
numbered_terms-returns t c =
    IfOk-weaker c.from_vec.result _ _
    (λ list is. numbered_all (map term_tree c.loop-rest.trees.items) (numbered_terms c.args.names.now (terms_syntax c.args.terms.now))
    (term_trees list)
    (rw c.in_default.is at c.loop-rest.invariant.numbered) is)
    c.from_vec.ensures
