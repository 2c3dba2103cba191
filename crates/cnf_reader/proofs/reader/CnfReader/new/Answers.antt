use Rattle.std.proofs.Common.{◌++◌, sym, ap, ◌∙◌}
use Rattle.cnf_reader.specs.declared.stages.Stage.TheVariants.{Comments}
use Rattle.cnf_reader.specs.internal.Reading.{answer_left}
use Rattle.cnf_reader.specs.internal.Places.{tells, at_feed}
use Rattle.cnf_reader.proofs.StageLemmas.{whole_text}
use Rattle.cnf_reader.proofs.reader.CnfReader.new.Goals as goal

pub returns : goal.returns
returns c = record {
  kept = at_feed c.in_ok-kept.ensures.items;
  answer = λ more. whole_text (tells c.new.result) more
      ∙ ap (λ xs. answer_left Comments (tells c.new.result) 0 (xs ++ more)) (sym c.in_ok-kept.ensures.items);
}
