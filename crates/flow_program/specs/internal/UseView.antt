-- Internal: only private functions of this crate use these words.
-- A use of a name, without where its bytes lie in memory.
use Rattle.tsl_terms.specs.Clashes.{name_use}
use Rattle.flow_program.specs.declared.uses.SpelledUse.{SpelledUse}
use Rattle.flow_program.specs.Uses.{ProgramUse}

abbrev pub use_view : SpelledUse → ProgramUse
use_view u = record { name = name_use u.usage; place = u.place; line = u.line; is_read = u.is_read; is_tested = u.is_tested }
