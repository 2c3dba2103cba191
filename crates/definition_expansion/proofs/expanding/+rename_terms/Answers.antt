use Rattle.std.proofs.Common.{map, rules, ◌∙◌, sym}
use Rattle.std.proofs.lemmas.Result.{IfOk-weaker}
use Rattle.spec_syntax.specs.declared.trees.ReadTerms.{the_lemmas}
use Rattle.definition_expansion.specs.Expansion.{renamed_term, renamed_terms, ungrouped_term, ungrouped_terms}
use Rattle.spec_syntax.specs.SyntaxView.{term_syntax, terms_syntax}
use Rattle.definition_expansion.specs.internal.Standing.{standing}
use Rattle.spec_syntax.proofs.TreeLemmas.{terms_front_none}
use Rattle.definition_expansion.proofs.MoreMembers.{terms_more}
use Rattle.definition_expansion.proofs.expanding.+rename_terms.Goals as goal

pub renamed_terms-loop-rest-preserved : goal.renamed_terms-loop-rest-preserved
renamed_terms-loop-rest-preserved t c = record {
  renamed =
      terms_more term_syntax c.loop-rest.list.items _ c.in_ok-term.term
      (ungrouped_term (renamed_term (standing c.args.passed.now) (term_syntax c.deref.result.now)))
      (ungrouped_terms (renamed_terms (standing c.args.passed.now) (terms_syntax c.deref-rest.result.now))) c.in_ok-push.ensures.items
      c.in_ok-term.ensures
      ∙ rw (c.deref.ensures, c.deref-rest.ensures) (rw c.in-More.is at c.loop-rest.invariant.renamed);
  size = search (rules, the_lemmas);
}

pub renamed_terms-returns : goal.renamed_terms-returns
renamed_terms-returns t c =
    IfOk-weaker c.from_vec.result _ _
    (λ list is. is ∙ sym (terms_front_none (map term_syntax c.loop-rest.list.items))
    ∙ (rw c.in_default.is at c.loop-rest.invariant.renamed))
    c.from_vec.ensures
