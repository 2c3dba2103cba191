use Rattle.std.proofs.Common.{◌∙◌, ap, map}
use Rattle.lasso_text.specs.LetterText.{rise}
use Rattle.lasso_text.specs.LoopView.{letter_view, reader_state}
use Rattle.lasso_text.proofs.LetterLines.{letter_wrong, letter_added, pushed}
use Rattle.lasso_text.proofs.reader.LettersReader.read_letter.Goals as goal

pub returns-then-not-rise-clause-wrong : goal.returns-then-not-rise-clause-wrong
returns-then-not-rise-clause-wrong c e =
    letter_wrong (reader_state c.args.self.now) c.args.rest.now c.in-Some.numbers.items c.rise.result
    (rw c.in-Some.is at c.in_ok-numbers.ensures)
    (c.rise.ensures ∙ ap (rise c.args.self.now.bits 0) c.deref.ensures.value) c.if-not-rise.true

pub returns-clause-read : goal.returns-clause-read
returns-clause-read c e =
    letter_added (reader_state c.args.self.now) c.args.rest.now c.in-Some.numbers.items c.rise.result
    (rw c.in-Some.is at c.in_ok-numbers.ensures)
    (c.rise.ensures ∙ ap (rise c.args.self.now.bits 0) c.deref.ensures.value) c.if-not-rise.false
    (map letter_view c.push.new.self.items)
    (pushed c.args.self.now.letters.items c.push.new.self.items _ c.in-Some.numbers.items c.in_ok-push.ensures.items c.from_vec.ensures)
