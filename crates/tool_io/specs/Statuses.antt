-- The numbers of statuses, and the sink of what goes with them.
use Rattle.std.specs.Prelude.{ℕ, Bool, true, false}
use Rattle.tool_io.specs.declared.status.Status.{Status}
use Rattle.tool_io.specs.declared.status.Status.TheVariants.{Done, No, Usage, Reading, Large, Spent, ReadFault, WriteFault, Memory}

abbrev pub status_number : Status → ℕ
status_number Done = 0
status_number No = 1
status_number Usage = 2
status_number Reading = 3
status_number Large = 4
status_number Spent = 5
status_number ReadFault = 6
status_number WriteFault = 7
status_number Memory = 8

-- whether it is the answer to a question, whose text goes to the first sink
abbrev pub is_answer : Status → Bool
is_answer Done = true
is_answer No = true
is_answer Spent = true
is_answer Usage = false
is_answer Reading = false
is_answer Large = false
is_answer ReadFault = false
is_answer WriteFault = false
is_answer Memory = false
