-- Internal: only private functions of this crate use these words.
-- Faults of the form and of entries as errors.
use Rattle.table_syntax.specs.declared.forms.TextFault.{TextFault}
use Rattle.table_syntax.specs.declared.forms.TextFault.TheVariants as text
use Rattle.entry_names.specs.declared.locating.EntryFault.{EntryFault}
use Rattle.entry_names.specs.declared.locating.EntryFault.TheVariants as entry
use Rattle.table_interp.specs.declared.TableError.{TableError}
use Rattle.table_interp.specs.declared.TableError.TheVariants as table
use Rattle.table_interp.specs.declared.InputError.{InputError}
use Rattle.table_interp.specs.declared.InputError.TheVariants as input

abbrev pub table_error : TextFault → TableError
table_error (text.Byte at) = table.Byte at
table_error (text.OpenComment at) = table.OpenComment at
table_error (text.Form at) = table.Form at
table_error text.NoMemory = table.NoMemory

abbrev pub entry_error : EntryFault → TableError
entry_error (entry.Unknown start end) = table.Unknown start end
entry_error (entry.Twice start end) = table.Twice start end
entry_error (entry.Missing id) = table.Missing id
entry_error entry.NoMemory = table.NoMemory

abbrev pub input_error : TextFault → InputError
input_error (text.Byte at) = input.Byte at
input_error (text.OpenComment at) = input.OpenComment at
input_error (text.Form at) = input.Form at
input_error text.NoMemory = input.NoMemory

abbrev pub column_error : EntryFault → InputError
column_error (entry.Unknown start end) = input.Unknown start end
column_error (entry.Twice start end) = input.Twice start end
column_error (entry.Missing id) = input.Missing id
column_error entry.NoMemory = input.NoMemory
