-- Internal: only private functions of this crate use these words.
-- Where the refusals of programs, tables, machine words and inputs stand.
use Rattle.std.specs.Prelude.{ℕ, ◌<◌, ◌≤◌, List, length}
use Rattle.tsl_terms.specs.Name.{Name}
use Rattle.flow_program.specs.declared.reading.ProgramError.{ProgramError}
use Rattle.flow_program.specs.declared.reading.ProgramError.TheVariants.{Unknown, Kind, Arity}
use Rattle.table_interp.specs.declared.TableError.{TableError}
use Rattle.table_interp.specs.declared.TableError.TheVariants.{Byte as TableByte, OpenComment as TableComment, Form as TableForm}
use Rattle.table_interp.specs.declared.TableError.TheVariants.{Unknown as UnknownEntry, Twice as SecondEntry, Missing as MissingEntry}
use Rattle.table_interp.specs.declared.TableError.TheVariants.{Count as EntryCount, Range as EntryRange}
use Rattle.word_interp.specs.declared.WordError.{WordError}
use Rattle.word_interp.specs.declared.WordError.TheVariants.{Byte as WordByte, OpenComment as WordComment, Form as WordForm}
use Rattle.word_interp.specs.declared.WordError.TheVariants.{Unknown as UnknownWord, Twice as SecondWord, Missing as MissingWord}
use Rattle.word_interp.specs.declared.WordError.TheVariants.{Arity as WordArity, Range as WordRange}
use Rattle.table_interp.specs.declared.InputError.{InputError}
use Rattle.table_interp.specs.declared.InputError.TheVariants.{Byte as InputByte, OpenComment as InputComment, Form as InputForm}
use Rattle.table_interp.specs.declared.InputError.TheVariants.{Unknown as UnknownInput, Twice as SecondInput, Missing as MissingInput}

-- the name of a refusal lies in the text
abbrev pub ProgramStandsIn : List ℕ → ProgramError → Type 0
ProgramStandsIn text (Unknown line name) = (name.start ≤ name.end) × (name.end ≤ length text)
ProgramStandsIn text (Kind line name) = (name.start ≤ name.end) × (name.end ≤ length text)
ProgramStandsIn text (Arity line name) = (name.start ≤ name.end) × (name.end ≤ length text)
ProgramStandsIn text _ = Unit {0}

-- the offsets of a refusal lie in the text, and the names hold its number
abbrev pub TableStandsIn : List ℕ → List Name → TableError → Type 0
TableStandsIn text names (TableByte at) = at ≤ length text
TableStandsIn text names (TableComment at) = at ≤ length text
TableStandsIn text names (TableForm at) = at ≤ length text
TableStandsIn text names (UnknownEntry start end) = (start ≤ end) × (end ≤ length text)
TableStandsIn text names (SecondEntry start end) = (start ≤ end) × (end ≤ length text)
TableStandsIn text names (MissingEntry id) = id < length names
TableStandsIn text names (EntryCount id) = id < length names
TableStandsIn text names (EntryRange id value) = id < length names
TableStandsIn text names _ = Unit {0}

abbrev pub WordStandsIn : List ℕ → List Name → WordError → Type 0
WordStandsIn text names (WordByte at) = at ≤ length text
WordStandsIn text names (WordComment at) = at ≤ length text
WordStandsIn text names (WordForm at) = at ≤ length text
WordStandsIn text names (UnknownWord start end) = (start ≤ end) × (end ≤ length text)
WordStandsIn text names (SecondWord start end) = (start ≤ end) × (end ≤ length text)
WordStandsIn text names (MissingWord id) = id < length names
WordStandsIn text names (WordArity id) = id < length names
WordStandsIn text names (WordRange id value) = id < length names
WordStandsIn text names _ = Unit {0}

abbrev pub InputStandsIn : List ℕ → List Name → InputError → Type 0
InputStandsIn text names (InputByte at) = at ≤ length text
InputStandsIn text names (InputComment at) = at ≤ length text
InputStandsIn text names (InputForm at) = at ≤ length text
InputStandsIn text names (UnknownInput start end) = (start ≤ end) × (end ≤ length text)
InputStandsIn text names (SecondInput start end) = (start ≤ end) × (end ≤ length text)
InputStandsIn text names (MissingInput id) = id < length names
InputStandsIn text names _ = Unit {0}
