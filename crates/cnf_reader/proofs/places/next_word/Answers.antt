use Rattle.std.proofs.Common.{◌<◌, not, length, refl, ap, ◌∙◌, arith, rules}
use Rattle.std.proofs.lemmas.List.{take_rest}
use Rattle.tsl_text.specs.Lines.{is_blank}
use Rattle.cnf_reader.specs.internal.RestOfText.{begins_with_blank}
use Rattle.cnf_reader.specs.internal.Reading.{answer_left}
use Rattle.cnf_reader.proofs.PlaceLemmas.{all_pass, some_byte, word_stands, cut_at}
use Rattle.cnf_reader.proofs.places.next_word.Goals as goal

pub kept_word-requires-clause-whole : goal.kept_word-requires-clause-whole
kept_word-requires-clause-whole c =
    all_pass (λ byte. not (is_blank byte)) c.in_ok-start.start.text.now c.front_number-number.result.1 c.front_number-number.ensures.len
    (omega arith)

pub returns-clause-next : goal.returns-clause-next
returns-clause-next c =
    let start = c.in_ok-start.start in
    let text = start.text.now in
    let len = c.front_number-number.result.1 in
    let within : len < length text = omega (arith, c.front_number-number.ensures.bound) in
    let byte : 0 < len = omega (arith, c.front_number-number.ensures.len, some_byte text (omega arith) c.in_ok-start.ensures.word) in
    let word = word_stands text len c.front_number-number.ensures.len within byte in record {
      answer = λ told more. c.in_ok-start.ensures.goes_on.answer told more
          ∙ ap (answer_left start.stage told start.number) (cut_at text more len);
      few = search rules;
      line = refl;
      some = word.some;
      whole = word.whole;
      ends = ap begins_with_blank (take_rest text len) ∙ word.ends;
    }
