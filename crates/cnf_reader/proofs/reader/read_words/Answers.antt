use Rattle.std.proofs.Common.{◌∙◌}
use Rattle.cnf_reader.specs.internal.Places.{tells}
use Rattle.cnf_reader.proofs.PlaceLemmas.{next_read}
use Rattle.cnf_reader.proofs.reader.read_words.Goals as goal

pub loop-behind-preserved : goal.loop-behind-preserved
loop-behind-preserved c = record {
  few = c.in-Ok.ensures.next.few;
  answer = λ more. c.loop-behind.invariant.answer more
      ∙ (c.in_ok-behind.ensures.answer more
      ∙ next_read c.in_ok-stage-in-Ok.stage (tells c.read_plain.new.told) (tells c.add_word.new.told) c.in-Ok.ensures.next
      c.in_ok-stage-in-Ok.ensures more);
}
