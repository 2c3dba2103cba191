use Rattle.tsl_tool.specs.Tasks.{search_sizes}
use Rattle.tsl_tool.proofs.WrittenRuns.{are_meant, written_not_no}
use Rattle.tsl_tool.proofs.laws.written_programs_do_not_fail.Goals as goal

pub returns : goal.returns
returns c = λ sizes specification text bytes reply written runs outcome.
    written_not_no (are_meant c.what_is_spelled_has_a_meaning.ensures.tables c.what_is_spelled_has_a_meaning-2.ensures
    c.what_is_spelled_has_a_meaning.ensures.inputs) (search_sizes sizes) specification text bytes reply written runs outcome
