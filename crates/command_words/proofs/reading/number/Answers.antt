use Rattle.std.specs.Str.Parse.{ParsesUnsigned, ExplainsUnsignedError, HasUnsignedDigitsIfOk}
use Rattle.std.proofs.Common.{◌∙◌}
use Rattle.command_words.proofs.NumbersRead.{reads_number}
use Rattle.command_words.proofs.reading.number.Goals as goal

pub returns : goal.returns
returns c = λ n has small. c.unwrap_or.ensures
    ∙ reads_number _ (λ bs r. ParsesUnsigned 32 10 bs r × ExplainsUnsignedError 10 bs r × HasUnsignedDigitsIfOk bs r) _ n
    c.get_one.result has small
    c.get_one.ensures.value (λ u x g. g.0)
