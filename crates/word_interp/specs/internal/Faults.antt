-- Internal: only private functions of this crate use these words.
-- Faults of the form and of entries as errors.
use Rattle.table_syntax.specs.declared.forms.TextFault.{TextFault}
use Rattle.table_syntax.specs.declared.forms.TextFault.TheVariants as text
use Rattle.entry_names.specs.declared.locating.EntryFault.{EntryFault}
use Rattle.entry_names.specs.declared.locating.EntryFault.TheVariants as entry
use Rattle.word_interp.specs.declared.WordError.{WordError}
use Rattle.word_interp.specs.declared.WordError.TheVariants as word

abbrev pub form_error : TextFault → WordError
form_error (text.Byte at) = word.Byte at
form_error (text.OpenComment at) = word.OpenComment at
form_error (text.Form at) = word.Form at
form_error text.NoMemory = word.NoMemory

abbrev pub entry_error : EntryFault → WordError
entry_error (entry.Unknown start end) = word.Unknown start end
entry_error (entry.Twice start end) = word.Twice start end
entry_error (entry.Missing id) = word.Missing id
entry_error entry.NoMemory = word.NoMemory
