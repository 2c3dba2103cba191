-- The fault that is answered where a text is refused as a program, as tables, as machine words or as inputs.
use Rattle.std.specs.Prelude.{◌≡◌, ℕ, List}
use Rattle.tsl_text.specs.declared.places.Place.{Place}
use Rattle.tsl_terms.specs.Name.{Name}
use Rattle.term_text.specs.TermText.{name_text}
use Rattle.program_listing.specs.declared.listing.Name.{Name as NamePlace}
use Rattle.flow_program.specs.declared.reading.ProgramError.{ProgramError}
use Rattle.flow_program.specs.declared.reading.ProgramError.TheVariants.{Form, Order, Target, Updates, Window, Unknown, Kind, Arity}
use Rattle.flow_program.specs.declared.reading.ProgramError.TheVariants.{Windows, Nodes, States, NoMemory}
use Rattle.program_tree.specs.Writable.{most_windows, most_nodes, most_states}
use Rattle.table_interp.specs.declared.TheConstants.{MOST_VALUES, MOST_ENTRIES, MOST_ROWS}
use Rattle.table_interp.specs.declared.TableError.{TableError}
use Rattle.table_interp.specs.declared.TableError.TheVariants.{Byte as TableByte, OpenComment as TableComment, Form as TableForm, Domain}
use Rattle.table_interp.specs.declared.TableError.TheVariants.{Unknown as UnknownEntry, Twice as SecondEntry, Missing as MissingEntry}
use Rattle.table_interp.specs.declared.TableError.TheVariants.{Entries, Count as EntryCount, Range as EntryRange, NoMemory as NoTableMemory}
use Rattle.table_interp.specs.declared.InputError.{InputError}
use Rattle.table_interp.specs.declared.InputError.TheVariants.{Byte as InputByte, OpenComment as InputComment, Form as InputForm}
use Rattle.table_interp.specs.declared.InputError.TheVariants.{Unknown as UnknownInput, Twice as SecondInput, Missing as MissingInput}
use Rattle.table_interp.specs.declared.InputError.TheVariants.{Rows, Count as RowWidth, Range as RowValue, NoMemory as NoInputMemory}
use Rattle.word_interp.specs.declared.TheConstants.{MOST_BITS}
use Rattle.word_interp.specs.declared.WordError.{WordError}
use Rattle.word_interp.specs.declared.WordError.TheVariants.{Byte as WordByte, OpenComment as WordComment, Form as WordForm, Width}
use Rattle.word_interp.specs.declared.WordError.TheVariants.{Unknown as UnknownWord, Twice as SecondWord, Missing as MissingWord}
use Rattle.word_interp.specs.declared.WordError.TheVariants.{Arity as WordArity, Range as WordRange, NoMemory as NoWordMemory}
use Rattle.tsl_report.specs.declared.fault.TokenPart.TheVariants.{Tables, Words, Inputs}
use Rattle.tsl_report.specs.declared.fault.DataPart.TheVariants.{Tables as TableData, Words as WordData, Inputs as InputData}
use Rattle.tsl_report.specs.declared.fault.ProgramRule.TheVariants.{Form as LineForm, Order as LineOrder, Target as LineTarget}
use Rattle.tsl_report.specs.declared.fault.ProgramRule.TheVariants.{Updates as LineUpdates, Window as LineWindow}
use Rattle.tsl_report.specs.declared.fault.ProgramRule.TheVariants.{Unknown as LineUnknown, Kind as LineKind, Arity as LineArity}
use Rattle.tsl_report.specs.declared.fault.LimitName.TheVariants.{Windows as WindowLimit, ProgramNodes, ProgramStates}
use Rattle.tsl_report.specs.declared.fault.LimitName.TheVariants.{Domain as DomainLimit, Width as WidthLimit, Entries as EntryLimit, Rows as RowLimit}
use Rattle.tsl_report.specs.declared.fault.Fault.{Fault}
use Rattle.tsl_report.specs.declared.fault.Fault.TheVariants.{Byte, Comment, Form as FormFault, Unknown as UnknownName, Twice as SecondName}
use Rattle.tsl_report.specs.declared.fault.Fault.TheVariants.{Missing as MissingName, TableCount, TableRange, WordsArity, WordsRange, RowCount, RowRange, Program}
use Rattle.tsl_report.specs.declared.fault.Fault.TheVariants.{Large}
use Rattle.command_faults.specs.Refusals.{IsPlaceOf, name_between}

-- the name that stands at a place of the text
abbrev pub name_in_text : List ℕ → NamePlace → List ℕ
name_in_text text place = name_between text place.start place.end

-- of a program: the line, the rule and the name, or the limit that is passed
abbrev pub IsProgramFault : List ℕ → ProgramError → Fault → Type 0
IsProgramFault text (Form line) fault = fault ≡ Program line LineForm
IsProgramFault text (Order line) fault = fault ≡ Program line LineOrder
IsProgramFault text (Target line) fault = fault ≡ Program line LineTarget
IsProgramFault text (Updates line) fault = fault ≡ Program line LineUpdates
IsProgramFault text (Window line) fault = fault ≡ Program line LineWindow
IsProgramFault text (Unknown line name) fault = fault ≡ Program line (LineUnknown (name_in_text text name))
IsProgramFault text (Kind line name) fault = fault ≡ Program line (LineKind (name_in_text text name))
IsProgramFault text (Arity line name) fault = fault ≡ Program line (LineArity (name_in_text text name))
IsProgramFault text Windows fault = fault ≡ Large WindowLimit most_windows
IsProgramFault text Nodes fault = fault ≡ Large ProgramNodes most_nodes
IsProgramFault text States fault = fault ≡ Large ProgramStates most_states
IsProgramFault text NoMemory fault = ⊥

-- of tables over these names: the place and the name that stands there, or the name of a number, or the limit that is passed
abbrev pub IsTableFault : List ℕ → List Name → TableError → Fault → Type 0
IsTableFault text names (TableByte at) fault = (place : Place) × IsPlaceOf text at place × (fault ≡ Byte Tables place)
IsTableFault text names (TableComment at) fault = (place : Place) × IsPlaceOf text at place × (fault ≡ Comment Tables place)
IsTableFault text names (TableForm at) fault = (place : Place) × IsPlaceOf text at place × (fault ≡ FormFault Tables place)
IsTableFault text names Domain fault = fault ≡ Large DomainLimit MOST_VALUES
IsTableFault text names (UnknownEntry start end) fault =
    (place : Place) × IsPlaceOf text start place × (fault ≡ UnknownName TableData place (name_between text start end))
IsTableFault text names (SecondEntry start end) fault =
    (place : Place) × IsPlaceOf text start place × (fault ≡ SecondName TableData place (name_between text start end))
IsTableFault text names (MissingEntry id) fault = fault ≡ MissingName TableData (name_text names id)
IsTableFault text names (Entries id) fault = fault ≡ Large EntryLimit MOST_ENTRIES
IsTableFault text names (EntryCount id) fault = fault ≡ TableCount (name_text names id)
IsTableFault text names (EntryRange id value) fault = fault ≡ TableRange (name_text names id) value
IsTableFault text names NoTableMemory fault = ⊥

-- of machine words over these names, likewise
abbrev pub IsWordsFault : List ℕ → List Name → WordError → Fault → Type 0
IsWordsFault text names (WordByte at) fault = (place : Place) × IsPlaceOf text at place × (fault ≡ Byte Words place)
IsWordsFault text names (WordComment at) fault = (place : Place) × IsPlaceOf text at place × (fault ≡ Comment Words place)
IsWordsFault text names (WordForm at) fault = (place : Place) × IsPlaceOf text at place × (fault ≡ FormFault Words place)
IsWordsFault text names Width fault = fault ≡ Large WidthLimit MOST_BITS
IsWordsFault text names (UnknownWord start end) fault =
    (place : Place) × IsPlaceOf text start place × (fault ≡ UnknownName WordData place (name_between text start end))
IsWordsFault text names (SecondWord start end) fault =
    (place : Place) × IsPlaceOf text start place × (fault ≡ SecondName WordData place (name_between text start end))
IsWordsFault text names (MissingWord id) fault = fault ≡ MissingName WordData (name_text names id)
IsWordsFault text names (WordArity id) fault = fault ≡ WordsArity (name_text names id)
IsWordsFault text names (WordRange id value) fault = fault ≡ WordsRange (name_text names id) value
IsWordsFault text names NoWordMemory fault = ⊥

-- of inputs over these names, likewise; rows are told by their numbers
abbrev pub IsInputFault : List ℕ → List Name → InputError → Fault → Type 0
IsInputFault text names (InputByte at) fault = (place : Place) × IsPlaceOf text at place × (fault ≡ Byte Inputs place)
IsInputFault text names (InputComment at) fault = (place : Place) × IsPlaceOf text at place × (fault ≡ Comment Inputs place)
IsInputFault text names (InputForm at) fault = (place : Place) × IsPlaceOf text at place × (fault ≡ FormFault Inputs place)
IsInputFault text names (UnknownInput start end) fault =
    (place : Place) × IsPlaceOf text start place × (fault ≡ UnknownName InputData place (name_between text start end))
IsInputFault text names (SecondInput start end) fault =
    (place : Place) × IsPlaceOf text start place × (fault ≡ SecondName InputData place (name_between text start end))
IsInputFault text names (MissingInput id) fault = fault ≡ MissingName InputData (name_text names id)
IsInputFault text names Rows fault = fault ≡ Large RowLimit MOST_ROWS
IsInputFault text names (RowWidth row) fault = fault ≡ RowCount row
IsInputFault text names (RowValue row value) fault = fault ≡ RowRange row value
IsInputFault text names NoInputMemory fault = ⊥
