use Rattle.flow_program.proofs.ReadingLaws.{one_cause, refused_spells_none}
use Rattle.flow_program.proofs.laws.one_program_cause.Goals as goal

pub returns-clause-one : goal.returns-clause-one
returns-clause-one c = one_cause

pub returns-clause-none : goal.returns-clause-none
returns-clause-none c = refused_spells_none
