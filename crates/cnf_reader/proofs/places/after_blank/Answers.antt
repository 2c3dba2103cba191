use Rattle.std.proofs.Common.{◌++◌, sym, ap, ◌∙◌, rules}
use Rattle.std.proofs.lemmas.List.{take_rest}
use Rattle.cnf_reader.specs.internal.Reading.{answer_left}
use Rattle.cnf_reader.proofs.PlaceLemmas.{blank_dropped}
use Rattle.cnf_reader.proofs.places.after_blank.Goals as goal

pub returns-else-rest-eq10-clause-goes_on : goal.returns-else-rest-eq10-clause-goes_on
returns-else-rest-eq10-clause-goes_on c =
    let rest = c.args.rest in record {
      answer = λ told more. blank_dropped rest.stage told rest.number rest.text.now more c.requires.blank c.if-rest-eq10.false
          ∙ ap (λ xs. answer_left rest.stage told rest.number (xs ++ more)) (sym (take_rest rest.text.now 1));
      few = search rules;
    }
