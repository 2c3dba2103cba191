use Rattle.std.proofs.Common.{rules, codes, ap, ◌∙◌, ◌++◌}
use Rattle.tsl_terms.specs.declared.term.TermList.{the_lemmas}
use Rattle.tsl_terms.specs.TermTree.{term_tree, term_trees}
use Rattle.term_text.specs.TermText.{term_text, argument_text, arguments_text}
use Rattle.term_text.proofs.Begins.{begins_longer, argument_step}
use Rattle.term_text.proofs.+terms.Goals as goal

pub put_arguments-loop-rest-preserved : goal.put_arguments-loop-rest-preserved
put_arguments-loop-rest-preserved t c =
    let names = c.args.names.now in
    let tree = term_tree c.deref.result.now in
    let text = argument_text tree (term_text names tree) in
    record {
      held = search rules;
      written = argument_step c.loop-rest.out.items _ (codes " ") text (arguments_text names (term_trees c.deref-rest.result.now)) _
          (rw (c.deref.ensures, c.deref-rest.ensures) (rw c.in-More.is at c.loop-rest.invariant.written))
          (c.in_ok-put_argument.ensures.text ∙ ap (λ xs. xs ++ text) c.in_ok-put.ensures.text);
      front = begins_longer _ _ _ c.loop-rest.invariant.front
          (begins_longer _ _ _ c.put-in-More.ensures.front c.put_argument.ensures.front);
      size = search (rules, the_lemmas);
    }
