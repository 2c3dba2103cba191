use Rattle.std.proofs.Common.{suc, ◌+◌}
use Rattle.loop_shape.proofs.Steps.{after_position, list_all-positions}
use Rattle.loop_shape.proofs.laws.positions_stay.Goals as goal

pub returns-clause-after : goal.returns-clause-after
returns-clause-after c = after_position

pub returns-clause-globally : goal.returns-clause-globally
returns-clause-globally c = λ shape a i p holds. list_all-positions shape a (suc (shape.start + shape.length)) i p holds
