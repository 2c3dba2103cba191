-- What is written and what is left make the whole.
use Rattle.std.proofs.Common.{◌≡◌, ◌++◌, drop}
use Rattle.flow_program.specs.ProgramText.{declarations}
use Rattle.flow_program.proofs.writing.put_declarations.Given as goal

abbrev pub invariant-loop-id : goal.invariant-loop-id
invariant-loop-id l =
    l.out.items ++ declarations l.word l.names (drop l.id-index l.ids) ≡ l.fn.out.items ++ declarations l.word l.names l.ids
