use Rattle.std.proofs.Common.{map, rules, ◌∙◌}
use Rattle.std.proofs.lemmas.Bool.{and_parts}
use Rattle.std.proofs.lemmas.Result.{IfOk-weaker}
use Rattle.tsl_terms.specs.TermTree.{term_tree, term_trees}
use Rattle.program_listing.specs.declared.listing.SurfaceTermList.{the_lemmas}
use Rattle.program_listing.specs.Listing.{surface_tree, surface_trees}
use Rattle.flow_program.specs.internal.Numbering.{numbered_terms}
use Rattle.tsl_terms.proofs.NumberedTerms.{numbered_all}
use Rattle.flow_program.proofs.NumberLemmas.{numbered_more}
use Rattle.flow_program.proofs.numbering.+number_terms.Goals as goal

pub numbered_term-numbered-number-requires-clause-stands : goal.numbered_term-numbered-number-requires-clause-stands
numbered_term-numbered-number-requires-clause-stands t c = (and_parts _ _ (rw c.in-Applied.is at c.requires.stands)).0

pub numbered_term-numbered_terms-requires : goal.numbered_term-numbered_terms-requires
numbered_term-numbered_terms-requires t c =
    (search (rules, the_lemmas), ((and_parts _ _ (rw c.in-Applied.is at c.requires.stands)).1, search rules))

pub numbered_terms-loop-rest-preserved : goal.numbered_terms-loop-rest-preserved
numbered_terms-loop-rest-preserved t c = record {
  numbered =
      numbered_more c.args.names.now c.args.text.now c.loop-rest.trees.items _ c.in_ok-tree.tree (surface_tree c.deref.result.now)
      (surface_trees c.deref-rest.result.now)
      c.in_ok-push.ensures.items c.in_ok-tree.ensures
      ∙ rw (c.deref.ensures, c.deref-rest.ensures) (rw c.in-More.is at c.loop-rest.invariant.numbered);
  stand = search rules;
  size = search (rules, the_lemmas);
}

pub numbered_terms-returns : goal.numbered_terms-returns
numbered_terms-returns t c =
    IfOk-weaker c.from_vec.result _ _
    (λ list is. numbered_all (map term_tree c.loop-rest.trees.items) (numbered_terms c.args.names.now c.args.text.now
    (surface_trees c.args.terms.now))
    (term_trees list)
    (rw c.in_default.is at c.loop-rest.invariant.numbered) is)
    c.from_vec.ensures
