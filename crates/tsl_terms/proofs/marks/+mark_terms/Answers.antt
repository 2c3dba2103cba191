use Rattle.std.proofs.Common.{rules}
use Rattle.tsl_terms.specs.declared.term.TermList.{the_lemmas}
use Rattle.tsl_terms.specs.TermTree.{term_tree, term_trees}
use Rattle.tsl_terms.proofs.MarkLemmas.{mark_terms_more, mark_terms_end}
use Rattle.tsl_terms.proofs.marks.+mark_terms.Goals as goal

pub mark_terms-loop-rest-preserved : goal.mark_terms-loop-rest-preserved
mark_terms-loop-rest-preserved t c = (
  mark_terms_more c.loop-rest.read.items _ _ (term_tree c.deref.result.now) (term_trees c.deref-rest.result.now)
      (rw (c.deref.ensures, c.deref-rest.ensures) (rw c.in-More.is at c.loop-rest.invariant.0)) c.mark_term.ensures,
  search (rules, the_lemmas),
)

pub mark_terms-returns : goal.mark_terms-returns
mark_terms-returns t c = mark_terms_end _ _ (rw c.in_default.is at c.loop-rest.invariant.0)
