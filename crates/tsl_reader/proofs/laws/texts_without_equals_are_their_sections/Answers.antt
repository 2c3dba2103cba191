use Rattle.tsl_reader.proofs.WithoutEquals.{declared_alone}
use Rattle.tsl_reader.proofs.laws.texts_without_equals_are_their_sections.Goals as goal

pub returns : goal.returns
returns c = declared_alone
