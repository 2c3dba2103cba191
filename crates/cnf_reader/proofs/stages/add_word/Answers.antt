use Rattle.std.proofs.Common.{◌∷◌, sym, ap, ◌∙◌}
use Rattle.cnf_reader.specs.internal.Reading.{answer_at}
use Rattle.cnf_reader.specs.internal.Places.{tells}
use Rattle.cnf_reader.proofs.StageLemmas.{header_step}
use Rattle.cnf_reader.proofs.stages.add_word.Goals as goal

pub returns-in-Header : goal.returns-in-Header
returns-in-Header c = λ words later.
    let word = c.args.word in
    let told = tells c.args.told.now in
    ap (λ stage. answer_at stage told word.line (word.bytes.now ∷ words) later) c.in-Header.is
    ∙ (header_step c.in-Header.heading told word.line word.bytes.now words later
    ∙ (λ i. answer_at (sym c.add_header_word.ensures.stage i) (sym c.add_header_word.ensures.tells i) word.line words later))
