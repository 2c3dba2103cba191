use Rattle.generator.proofs.GeneratedSpelled.{generated_is_short, generated_is_spelled}
use Rattle.generator.proofs.generated_texts_are_spelled.Goals as goal

pub returns-clause-short : goal.returns-clause-short
returns-clause-short c = generated_is_short

pub returns-clause-spelled : goal.returns-clause-spelled
returns-clause-spelled c = generated_is_spelled
