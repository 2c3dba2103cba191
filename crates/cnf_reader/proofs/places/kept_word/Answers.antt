use Rattle.std.proofs.Common.{◌<◌, length, sym, ap, ◌∙◌, arith, rules}
use Rattle.cnf_reader.specs.internal.Reading.{answer_left}
use Rattle.cnf_reader.proofs.PlaceLemmas.{long_passed}
use Rattle.cnf_reader.proofs.places.kept_word.Goals as goal

pub returns-clause-goes_on : goal.returns-clause-goes_on
returns-clause-goes_on c =
    let start = c.args.start in
    let long : 19 < length start.text.now = omega arith in record {
      answer = λ told more. long_passed start.stage told start.number start.text.now more c.requires.whole long
          ∙ ap (λ stage. answer_left stage told start.number more) (sym c.after_long_word.ensures);
      few = search rules;
    }
