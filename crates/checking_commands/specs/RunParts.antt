-- The parts of what `run` reads, which are found by lines alone.
use Rattle.std.specs.Prelude.{◌≡◌, ℕ, ◌≤◌, List, codes}
use Rattle.tsl_text.specs.Places.{IsBetweenFeeds}
use Rattle.tsl_report.specs.declared.fault.Head.{Head}
use Rattle.tsl_report.specs.declared.fault.Head.TheVariants.{Program, Tables as TablesHead, Inputs}
use Rattle.command_faults.specs.HeadLines.{HasNoLine, IsCutBefore}
use Rattle.checking_commands.specs.declared.parting.Style.{Style}
use Rattle.checking_commands.specs.declared.parting.Style.TheVariants.{Tables, Words}

-- the first line of a program, of tables, of machine words and of inputs
abbrev pub program_line : List ℕ
program_line = codes "tslprogram 1"

abbrev pub tables_line : List ℕ
tables_line = codes "tsltables 1"

abbrev pub words_line : List ℕ
words_line = codes "tslwords 1"

abbrev pub inputs_line : List ℕ
inputs_line = codes "tslinputs 1"

-- the first line of a text that gives the interpretation in this style
abbrev pub line_of : Style → List ℕ
line_of Tables = tables_line
line_of Words = words_line

abbrev pub other_style : Style → Style
other_style Tables = Words
other_style Words = Tables

-- the text of each part, and the style of the one that gives the interpretation; without a specification its part is empty
pub record RunParts : Type 0 where
  pub spec : List ℕ
  pub program : List ℕ
  pub style : Style
  pub meaning : List ℕ
  pub inputs : List ℕ

-- all before the next line that begins tables or machine words, and all from that line on, which is of this style
pub record IsCutByStyle (text : List ℕ) (style : Style) (before after : List ℕ) : Type 0 where
  pub cut : IsCutBefore text (line_of style) before after
  pub comes_first : (other : ℕ) → IsBetweenFeeds text (line_of (other_style style)) other → cut.at ≤ other

-- The specification is all before the first line `tslprogram 1`. The program goes from that line to the next line
-- `tsltables 1` or `tslwords 1`, whichever comes first. The tables or machine words go from there to the next line
-- `tslinputs 1`, and the inputs from there to the end.
pub record AreParts (bytes : List ℕ) (parts : RunParts) : Type 0 where
  pub from_program : List ℕ
  pub from_meaning : List ℕ
  pub program_begins : IsCutBefore bytes program_line parts.spec from_program
  pub meaning_begins : IsCutByStyle from_program parts.style parts.program from_meaning
  pub inputs_begin : IsCutBefore from_meaning inputs_line parts.meaning parts.inputs

-- this is the first part whose line is missing
pub data LacksPart (bytes : List ℕ) (head : Head) : Type 0 where
  lacks_program : head ≡ Program → HasNoLine bytes program_line → LacksPart bytes head
  lacks_meaning : (spec from_program : List ℕ) → head ≡ TablesHead → IsCutBefore bytes program_line spec from_program →
      ((style : Style) → HasNoLine from_program (line_of style)) → LacksPart bytes head
  lacks_inputs : (spec from_program program from_meaning : List ℕ) (style : Style) → head ≡ Inputs →
      IsCutBefore bytes program_line spec from_program → IsCutByStyle from_program style program from_meaning →
      HasNoLine from_meaning inputs_line → LacksPart bytes head
