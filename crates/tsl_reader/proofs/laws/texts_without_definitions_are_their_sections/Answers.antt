use Rattle.tsl_reader.proofs.WithoutDefinitions.{expands_to_itself, expands_only_to_itself}
use Rattle.tsl_reader.proofs.laws.texts_without_definitions_are_their_sections.Goals as goal

pub returns-clause-alone : goal.returns-clause-alone
returns-clause-alone c = expands_to_itself

pub returns-clause-only : goal.returns-clause-only
returns-clause-only c = expands_only_to_itself
