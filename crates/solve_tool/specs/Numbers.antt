-- The numbers of statuses: an assignment meets all clauses, none does, and nothing is known.
use Rattle.std.specs.Prelude.{ℕ, Bool}
use Rattle.tool_io.specs.declared.status.Status.{Status}
use Rattle.tool_io.specs.declared.status.Status.TheVariants.{Done as Satisfiable, No as Unsatisfiable, Spent as Unknown}
use Rattle.tool_io.specs.declared.status.Status.TheVariants.{Usage, Reading, Large, ReadFault, WriteFault, Memory}
use Rattle.tool_io.specs.Statuses.{is_answer}

abbrev pub exit_number : Status → ℕ
exit_number Satisfiable = 10
exit_number Unsatisfiable = 20
exit_number Unknown = 0
exit_number Usage = 2
exit_number Reading = 3
exit_number Large = 4
exit_number ReadFault = 6
exit_number WriteFault = 7
exit_number Memory = 8

-- whether it answers the question, so that its text goes to the first sink
abbrev pub is_solved : Status → Bool
is_solved status = is_answer status
