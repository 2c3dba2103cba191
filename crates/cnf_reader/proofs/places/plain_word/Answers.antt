use Rattle.std.proofs.Common.{refl, ap, ◌∙◌, rules}
use Rattle.std.proofs.lemmas.List.{take_rest}
use Rattle.cnf_reader.specs.internal.RestOfText.{begins_with_blank}
use Rattle.cnf_reader.specs.internal.Reading.{answer_left}
use Rattle.cnf_reader.proofs.PlaceLemmas.{word_stands, cut_at}
use Rattle.cnf_reader.proofs.places.plain_word.Goals as goal

pub returns-clause-next : goal.returns-clause-next
returns-clause-next c =
    let start = c.in-Ok.start in
    let text = start.text.now in
    let len = c.in_ok-number.len in
    let word = word_stands text len c.in_ok-number.ensures.len c.in_ok-number.ensures.bound c.in_ok-number.ensures.some in record {
      answer = λ told more. c.in-Ok.ensures.goes_on.answer told more
          ∙ ap (answer_left start.stage told start.number) (cut_at text more len);
      few = search rules;
      line = refl;
      some = word.some;
      whole = word.whole;
      ends = ap begins_with_blank (take_rest text len) ∙ word.ends;
    }
