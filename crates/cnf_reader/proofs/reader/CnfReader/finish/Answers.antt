use Rattle.std.proofs.Common.{◌≡◌, [], sym, ap, subst, ◌∙◌, append-nil}
use Rattle.cnf_reader.specs.CnfText.{cnf_answer}
use Rattle.cnf_reader.specs.Pieces.{IsGiven}
use Rattle.cnf_reader.specs.internal.Reading.{answer_left, end_answer}
use Rattle.cnf_reader.specs.internal.Places.{tells, IsKept}
use Rattle.cnf_reader.proofs.PlaceLemmas.{end_is}
use Rattle.cnf_reader.proofs.reader.CnfReader.finish.Goals as goal

pub returns : goal.returns
returns c = λ text read.
    let reader = c.args.self in
    let told = tells c.text_end.new.told in
    let end = c.in_ok-stage in
    let is : cnf_answer text ≡ end_answer end.stage told end.number =
    ap cnf_answer (sym (append-nil text))
    ∙ (read.answer []
    ∙ (ap (answer_left reader.stage (tells reader.told) reader.number) (append-nil reader.kept.items ∙ sym c.as_slice.ensures.value)
    ∙ (end.ensures.answer (subst IsKept (sym c.as_slice.ensures.value) read.kept) ∙ end_is end.stage told end.number))) in
    subst (λ answer. IsGiven answer c.answer_of.result) (sym is) c.answer_of.ensures
