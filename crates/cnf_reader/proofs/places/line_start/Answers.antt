use Rattle.std.proofs.Common.{◌+◌, ◌++◌, ◌<◌, length, take, sym, ap, ◌∙◌, arith, rules}
use Rattle.std.proofs.lemmas.List.{take_rest}
use Rattle.tsl_text.specs.Lines.{is_line_byte}
use Rattle.cnf_reader.specs.internal.Reading.{answer_left}
use Rattle.cnf_reader.proofs.PlaceLemmas.{data_line_passed, comment_passed, comment_kept, kept_comment, all_pass}
use Rattle.cnf_reader.proofs.places.line_start.Goals as goal

pub returns-then-not-is_comment-clause-goes_on : goal.returns-then-not-is_comment-clause-goes_on
returns-then-not-is_comment-clause-goes_on c =
    let rest = c.args.rest in
    let line = c.args.line.now in record {
      answer = λ told more. data_line_passed rest.stage told rest.number rest.text.now line more c.requires.feed
          (sym c.is_empty.ensures ∙ c.if-is_empty.false)
          (sym c.is_comment.ensures ∙ c.if-not-is_comment.true)
          ∙ ap (λ stage. answer_left stage told (rest.number + 1) (line ++ more)) (sym c.at_data_line-stage.ensures);
      few = omega (arith, ap length c.requires.feed);
    }

pub returns-then-len-line-clause-left : goal.returns-then-len-line-clause-left
returns-then-len-line-clause-left c =
    let rest = c.args.rest in
    let line = c.args.line.now in
    let comment = sym c.is_comment.ensures ∙ c.if-not-is_comment.false in record {
      answer = λ told more. comment_kept rest.stage told rest.number rest.text.now line more c.requires.feed comment
          (all_pass is_line_byte line c.line_len-len.result c.line_len-len.ensures.value (omega arith))
          ∙ ap (λ xs. answer_left rest.stage told rest.number (xs ++ more))
          (sym (ap (take 2) c.requires.feed ∙ kept_comment line comment));
      few = search rules;
    }

pub returns-clause-goes_on : goal.returns-clause-goes_on
returns-clause-goes_on c =
    let rest = c.args.rest in
    let line = c.args.line.now in
    let n = c.line_len-len.result in
    let comment = sym c.is_comment.ensures ∙ c.if-not-is_comment.false in
    let within : n < length line = omega (arith, c.line_len-len.ensures.bound) in record {
      answer = λ told more. comment_passed rest.stage told rest.number rest.text.now line more n c.requires.feed comment
          c.line_len-len.ensures.value within
          ∙ (λ i. answer_left (sym c.at_comment-stage.ensures i) told (rest.number + 1) (sym (take_rest line n) i ++ more));
      few = omega (arith, ap length c.requires.feed);
    }
