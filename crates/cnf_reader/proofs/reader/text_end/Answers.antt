use Rattle.std.proofs.Common.{[], ◌+◌, ◌<◌, length, sym, ap, ◌∙◌}
use Rattle.cnf_reader.specs.internal.Reading.{answer_left}
use Rattle.cnf_reader.specs.internal.Places.{tells}
use Rattle.cnf_reader.proofs.PlaceLemmas.{some_length, feed_ends, comment_ends, word_ends}
use Rattle.cnf_reader.proofs.reader.text_end.Goals as goal

pub returns-then-kept-eq1-clause-answer : goal.returns-then-kept-eq1-clause-answer
returns-then-kept-eq1-clause-answer c = λ kept.
    feed_ends c.args.stage (tells c.args.told.now) c.args.number c.args.kept.now kept (sym c.begins_with_blank.ensures
    ∙ c.if-begins_with_blank.true) c.if-kept-eq1.true

pub returns-else-kept-eq1-clause-answer : goal.returns-else-kept-eq1-clause-answer
returns-else-kept-eq1-clause-answer c = λ kept.
    comment_ends c.args.stage (tells c.args.told.now) c.args.number c.args.kept.now kept
    (sym c.begins_with_blank.ensures ∙ c.if-begins_with_blank.true) c.if-kept-eq1.false
    ∙ ap (λ stage. answer_left stage (tells c.args.told.now) (c.args.number + 1) []) (sym c.at_comment.ensures)

pub returns-clause-answer : goal.returns-clause-answer
returns-clause-answer c = λ kept.
    let some : 0 < length c.args.kept.now = some_length c.args.kept.now (sym c.is_empty.ensures ∙ c.if-is_empty.false) in
    word_ends c.args.stage c.in_ok-add_word.field-0 (tells c.args.told.now) (tells c.add_word.new.told) c.args.number c.args.kept.now kept
    (sym c.begins_with_blank.ensures ∙ c.if-begins_with_blank.false) some c.in_ok-add_word.ensures
