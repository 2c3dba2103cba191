-- The refusals of encodings and of searches for windows as refusals of a question.
use Rattle.program_check.specs.declared.verdict.CheckError.{CheckError}
use Rattle.program_check.specs.declared.verdict.CheckError.TheVariants.{Large, NoMemory}
use Rattle.program_check.specs.declared.verdict.Limit.TheVariants.{Clauses, Vectors, Branches}
use Rattle.bounded_encoding.specs.declared.errors.EncodeError.{EncodeError}
use Rattle.bounded_encoding.specs.declared.errors.EncodeError.TheVariants as encodes
use Rattle.counterstrategy.specs.declared.dual_error.DualError.{DualError}
use Rattle.counterstrategy.specs.declared.dual_error.DualError.TheVariants as duals
use Rattle.branch_finder.specs.declared.branch_error.BranchError.{BranchError}
use Rattle.branch_finder.specs.declared.branch_error.BranchError.TheVariants as branches

abbrev pub refused_encoding : EncodeError → CheckError
refused_encoding encodes.Clauses = Large Clauses
refused_encoding encodes.NoMemory = NoMemory

abbrev pub refused_dual : DualError → CheckError
refused_dual duals.Vectors = Large Vectors
refused_dual duals.Clauses = Large Clauses
refused_dual duals.NoMemory = NoMemory

abbrev pub refused_branches : BranchError → CheckError
refused_branches branches.Branches = Large Branches
refused_branches branches.NoMemory = NoMemory
