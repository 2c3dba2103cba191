use Rattle.std.proofs.Common.{◌∙◌, sym}
use Rattle.std.proofs.lemmas.List.{length-map}
use Rattle.counterstrategy.proofs.DualSizes.{is_dual_asked}
use Rattle.counterstrategy.proofs.dual_asking.dual_question_asked.Goals as goal

pub returns-clause-asked : goal.returns-clause-asked
returns-clause-asked c = is_dual_asked _ c.requires.has_state c.requires.few_states c.requires.few_automaton_states c.requires.few_numbers
    c.requires.few_vectors (c.len.ensures ∙ sym (length-map c.args.space.now.predicates _)) c.requires.vectors c.requires.letters
