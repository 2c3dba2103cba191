use Rattle.bounded_encoding.proofs.SolutionsAreAssignments.Demands.{encoding_is_met}
use Rattle.bounded_encoding.proofs.SolutionsAreAssignments.Encoded.{assignment, are_met_by_it}
use Rattle.bounded_encoding.proofs.laws.controllers_give_assignments.Goals as goal

pub returns : goal.returns
returns c q posed controller number solution = (
  assignment q posed controller number solution,
  encoding_is_met q (assignment q posed controller number solution) (are_met_by_it q posed controller number solution),
)
