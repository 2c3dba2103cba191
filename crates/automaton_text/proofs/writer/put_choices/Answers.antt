use Rattle.std.proofs.Common.{IsTrue, sym, subst}
use Rattle.base_library.proofs.Passes.{map_passes_within}
use Rattle.tsl_terms.specs.declared.term.Term.{Term}
use Rattle.tsl_terms.specs.TermTree.{term_tree}
use Rattle.term_text.specs.TermText.{term_is_held}
use Rattle.automaton_text.proofs.writer.put_choices.Goals as goal

pub put_choice-requires-clause-choice : goal.put_choice-requires-clause-choice
put_choice-requires-clause-choice c =
    subst (λ (t : Term). IsTrue (term_is_held c.args.names.now (term_tree t))) (sym c.choice-item.is)
    (map_passes_within term_tree (term_is_held c.args.names.now) c.args.choices.now c.loop-choice.choice-index _ c.requires.choices
    c.loop-choice-test.true)
