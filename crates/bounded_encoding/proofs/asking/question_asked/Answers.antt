use Rattle.std.proofs.Common.{◌∙◌, sym}
use Rattle.std.proofs.lemmas.List.{length-map}
use Rattle.bounded_encoding.proofs.Sizes.{is_asked}
use Rattle.bounded_encoding.proofs.asking.question_asked.Goals as goal

pub returns-clause-asked : goal.returns-clause-asked
returns-clause-asked c = is_asked _ c.requires.has_state c.requires.few_states c.requires.few_automaton_states c.requires.few_numbers
    (c.len.ensures ∙ sym (length-map c.args.space.now.predicates _)) c.valuations.ensures
    c.choices_in_all.ensures.value
