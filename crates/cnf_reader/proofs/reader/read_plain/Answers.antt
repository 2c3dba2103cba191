use Rattle.std.proofs.Common.{◌++◌, ap, ◌∙◌, arith}
use Rattle.cnf_reader.specs.internal.Reading.{answer_left}
use Rattle.cnf_reader.specs.internal.Places.{tells}
use Rattle.cnf_reader.proofs.PlaceLemmas.{next_number_read}
use Rattle.cnf_reader.proofs.reader.read_plain.Goals as goal

pub loop-word-preserved : goal.loop-word-preserved
loop-word-preserved c =
    let later = c.in-Some.later in
    let new = tells c.add_number.new.told in record {
      few = c.in-Some.ensures.next.few;
      within = omega (arith, c.in-Some.ensures.shorter, c.loop-word.invariant.within);
      answer = λ more. c.loop-word.invariant.answer more
          ∙ (next_number_read c.in_ok-stage.stage (tells c.loop-word.told) new c.in-Some.ensures.next c.in-Some.ensures.stage
          c.in_ok-stage.ensures more
          ∙ ap (λ stage. answer_left stage new later.number (later.text.now ++ more)) c.in-Numbers-2.is);
    }

pub returns-in_default-2 : goal.returns-in_default-2
returns-in_default-2 c = record {
  answer = λ more. c.loop-word.invariant.answer more
      ∙ next_number_read c.in_ok-stage.stage (tells c.loop-word.told) (tells c.add_number.new.told) c.in-Some.ensures.next
      c.in-Some.ensures.stage c.in_ok-stage.ensures more;
  few = c.in-Some.ensures.next.few;
  within = omega (arith, c.in-Some.ensures.shorter, c.loop-word.invariant.within);
}
