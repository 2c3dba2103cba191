-- The line that says why a text or the words were refused.
use Rattle.std.specs.Prelude.{ℕ, List, ◌++◌, codes, decimal}
use Rattle.tsl_text.specs.declared.places.Place.{Place}
use Rattle.tsl_report.specs.declared.fault.Head.{Head}
use Rattle.tsl_report.specs.declared.fault.Head.TheVariants.{Program as ProgramHead, Tables as TablesHead, Inputs as InputsHead, Lrat, Letters}
use Rattle.tsl_report.specs.declared.fault.TokenPart.{TokenPart}
use Rattle.tsl_report.specs.declared.fault.TokenPart.TheVariants.{Spec, Tables as TablesTokens, Words as WordsTokens, Inputs as InputsTokens}
use Rattle.tsl_report.specs.declared.fault.DataPart.{DataPart}
use Rattle.tsl_report.specs.declared.fault.DataPart.TheVariants.{Tables, Words, Inputs}
use Rattle.tsl_report.specs.declared.fault.ProgramRule.{ProgramRule}
use Rattle.tsl_report.specs.declared.fault.ProgramRule.TheVariants.{Form as LineForm, Order, Target, Updates, Window}
use Rattle.tsl_report.specs.declared.fault.ProgramRule.TheVariants.{Unknown as UnknownSignal, Kind as OtherKind, Arity as OtherArity}
use Rattle.tsl_report.specs.declared.fault.LimitName.{LimitName}
use Rattle.tsl_report.specs.declared.fault.LimitName.TheVariants.{Text, Nodes, Clauses, Run, Domain, Width, Entries, Rows}
use Rattle.tsl_report.specs.declared.fault.LimitName.TheVariants.{Windows, ProgramNodes, ProgramStates, Variables}
use Rattle.tsl_report.specs.declared.fault.LimitName.TheVariants.{Predicates, Bits, Choices, States, Edges, Vectors, Branches}
use Rattle.tsl_report.specs.declared.fault.Fault.{Fault}
use Rattle.tsl_report.specs.declared.fault.Fault.TheVariants.{Usage, Read, Parts, Byte, Comment, Form, Deep, Unknown, Twice}
use Rattle.tsl_report.specs.declared.fault.Fault.TheVariants.{Defined, Cycle, Kind, Arity, DeepUse}
use Rattle.tsl_report.specs.declared.fault.Fault.TheVariants.{Missing, TableCount, TableRange, WordsArity, WordsRange, RowCount, RowRange, Program}
use Rattle.tsl_report.specs.declared.fault.Fault.TheVariants.{CnfForm, LogForm, AutomatonForm, LettersForm, Large}

-- line and column, as `3:7`
abbrev pub place_text : Place → List ℕ
place_text place = decimal place.line ++ codes ":" ++ decimal place.column

-- the name of a line that parts an input
abbrev pub head_text : Head → List ℕ
head_text ProgramHead = codes "program"
head_text TablesHead = codes "tables"
head_text InputsHead = codes "inputs"
head_text Lrat = codes "lrat"
head_text Letters = codes "letters"

-- the name of a part that is read by tokens
abbrev pub part_text : TokenPart → List ℕ
part_text Spec = codes "spec"
part_text TablesTokens = codes "tables"
part_text WordsTokens = codes "words"
part_text InputsTokens = codes "inputs"

-- the name of a part that gives values to names
abbrev pub data_text : DataPart → List ℕ
data_text Tables = codes "tables"
data_text Words = codes "words"
data_text Inputs = codes "inputs"

-- the word for a rule of programs, and the name that it speaks of
abbrev pub rule_text : ProgramRule → List ℕ
rule_text LineForm = codes "form"
rule_text Order = codes "order"
rule_text Target = codes "target"
rule_text Updates = codes "updates"
rule_text Window = codes "window"
rule_text (UnknownSignal name) = codes "unknown " ++ name
rule_text (OtherKind name) = codes "kind " ++ name
rule_text (OtherArity name) = codes "arity " ++ name

abbrev pub limit_text : LimitName → List ℕ
limit_text Text = codes "text"
limit_text Nodes = codes "nodes"
limit_text Clauses = codes "clauses"
limit_text Run = codes "run"
limit_text Domain = codes "domain"
limit_text Width = codes "width"
limit_text Entries = codes "entries"
limit_text Rows = codes "rows"
limit_text Windows = codes "windows"
limit_text ProgramNodes = codes "program-nodes"
limit_text ProgramStates = codes "program-states"
limit_text Variables = codes "variables"
limit_text Predicates = codes "predicates"
limit_text Bits = codes "bits"
limit_text Choices = codes "choices"
limit_text States = codes "states"
limit_text Edges = codes "edges"
limit_text Vectors = codes "vectors"
limit_text Branches = codes "branches"

-- a part of this name, a place in it, and what is wrong there
abbrev pub place_fault : List ℕ → Place → List ℕ → List ℕ
place_fault part place word = codes "fault " ++ part ++ codes " " ++ place_text place ++ codes " " ++ word

-- of a part that is read by tokens
abbrev pub token_fault : TokenPart → Place → List ℕ → List ℕ
token_fault part = place_fault (part_text part)

-- of a part that gives values to names
abbrev pub name_fault : DataPart → Place → List ℕ → List ℕ
name_fault part = place_fault (data_text part)

-- a number that such a part gives for a name, and that is too large
abbrev pub range_fault : DataPart → List ℕ → ℕ → List ℕ
range_fault part name value = codes "fault " ++ data_text part ++ codes " range " ++ name ++ codes " " ++ decimal value

-- the line without its line feed
abbrev pub fault_line : Fault → List ℕ
fault_line Usage = codes "usage: tsl synth|check|run|prove|recheck|gen|circuit|automaton|accepts"
fault_line Read = codes "fault read"
fault_line (Parts head) = codes "fault parts " ++ head_text head
fault_line (Byte part place) = token_fault part place (codes "byte")
fault_line (Comment part place) = token_fault part place (codes "comment")
fault_line (Form part place) = token_fault part place (codes "form")
fault_line (Deep place) = token_fault Spec place (codes "deep")
fault_line (Defined place name) = token_fault Spec place (codes "defined " ++ name)
fault_line (Cycle place name) = token_fault Spec place (codes "cycle " ++ name)
fault_line (Kind place name) = token_fault Spec place (codes "kind " ++ name)
fault_line (Arity place name) = token_fault Spec place (codes "arity " ++ name)
fault_line (DeepUse place name) = token_fault Spec place (codes "deepuse " ++ name)
fault_line (Unknown part place name) = name_fault part place (codes "unknown " ++ name)
fault_line (Twice part place name) = name_fault part place (codes "twice " ++ name)
fault_line (Missing part name) = codes "fault " ++ data_text part ++ codes " missing " ++ name
fault_line (TableCount name) = codes "fault tables count " ++ name
fault_line (TableRange name value) = range_fault Tables name value
fault_line (WordsArity name) = codes "fault words arity " ++ name
fault_line (WordsRange name value) = range_fault Words name value
fault_line (RowCount row) = codes "fault inputs count " ++ decimal row
fault_line (RowRange row value) = codes "fault inputs range " ++ decimal row ++ codes " " ++ decimal value
fault_line (Program line rule) = codes "fault program " ++ decimal line ++ codes " " ++ rule_text rule
fault_line (CnfForm line) = codes "fault cnf " ++ decimal line ++ codes " form"
fault_line (LogForm line) = codes "fault log " ++ decimal line ++ codes " form"
fault_line (AutomatonForm line) = codes "fault automaton " ++ decimal line ++ codes " form"
fault_line (LettersForm line) = codes "fault letters " ++ decimal line ++ codes " form"
fault_line (Large name limit) = codes "large " ++ limit_text name ++ codes " " ++ decimal limit

abbrev pub fault_text : Fault → List ℕ
fault_text fault = fault_line fault ++ codes "\n"
