use Rattle.bounded_encoding.proofs.SolutionsAreAssignments.Demands.{are_met}
use Rattle.bounded_encoding.proofs.SolutionsAreAssignments.Decoded.{is_solution}
use Rattle.bounded_encoding.proofs.laws.assignments_give_controllers.Goals as goal

pub returns : goal.returns
returns c q posed assignment met = is_solution q posed assignment (are_met q assignment met)
