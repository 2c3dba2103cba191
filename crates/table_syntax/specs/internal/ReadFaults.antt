-- Internal: only private functions of this crate use these words.
-- The faults of readers, and the answers that have them.
use Rattle.std.specs.Prelude.{◌≡◌, Err}
use Rattle.reader_combinators.specs.Readers.{Answer, form}
use Rattle.table_syntax.specs.declared.reading.ReadFault.{ReadFault}
use Rattle.table_syntax.specs.declared.reading.ReadFault.TheVariants.{Form, NoMemory}
use Rattle.table_syntax.specs.Syntax.{TextToken}

-- the fault is the answer's, unless memory ran out
abbrev pub IsReadFaultOf : {V : Type 0} → Answer TextToken V → ReadFault → Type 0
IsReadFaultOf answer (Form left) = answer ≡ Err (form left)
IsReadFaultOf answer NoMemory = Unit {0}
