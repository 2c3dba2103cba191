use Rattle.name_resolution.proofs.Bounds.{heads_within, levels_below}
use Rattle.name_resolution.proofs.laws.names_and_levels_are_few.Goals as goal

pub returns-clause-heads : goal.returns-clause-heads
returns-clause-heads c = heads_within

pub returns-clause-levels : goal.returns-clause-levels
returns-clause-levels c = levels_below
