use Rattle.std.proofs.Common.{◌++◌, ap, ◌∙◌, append_assoc}
use Rattle.cnf_reader.specs.CnfText.{cnf_answer}
use Rattle.cnf_reader.specs.internal.Places.{tells}
use Rattle.cnf_reader.proofs.PlaceLemmas.{wrong_stays}
use Rattle.cnf_reader.proofs.reader.CnfReader.take_part.Goals as goal

pub returns-in-Wrong : goal.returns-in-Wrong
returns-in-Wrong c = λ text read.
    let reader = c.args.self.now in
    let part = c.args.part.now in record {
      kept = read.kept;
      answer = λ more. ap cnf_answer (append_assoc text part more)
          ∙ (read.answer (part ++ more)
          ∙ wrong_stays reader.stage c.in-Wrong.field-0 (tells reader.told) reader.number (reader.kept.items ++ (part ++ more))
          (reader.kept.items ++ more) c.in-Wrong.is);
    }
