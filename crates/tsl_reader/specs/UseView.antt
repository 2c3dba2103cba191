-- Internal: only private functions of this crate use these words.
-- A use of a name, without where its bytes lie in memory.
use Rattle.tsl_terms.specs.Clashes.{name_use}
use Rattle.tsl_reader.specs.declared.uses.ReadUse.{ReadUse}
use Rattle.tsl_reader.specs.Naming.{Use}

abbrev pub read_use : ReadUse → Use
read_use usage = record { name = name_use usage.usage; is_tested = usage.is_tested }
