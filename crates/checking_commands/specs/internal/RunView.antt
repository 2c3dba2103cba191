-- Internal: only private functions of this crate use these words.
-- What is known before a program runs.
use Rattle.std.specs.Prelude.{◌≡◌, ℕ, ◌^◌, ◌<◌, ◌≤◌, Bool, List, ◌++◌, length, map, Option, Some, None, option_map}
use Rattle.std.specs.Option.{option_copied}
use Rattle.std.specs.Borrow.{Bor}
use Rattle.tsl_text.specs.Places.{IsBetweenFeeds}
use Rattle.tsl_terms.specs.declared.spec.Spec.{Spec}
use Rattle.tsl_terms.specs.Name.{Name}
use Rattle.tsl_terms.specs.FormulaTree.{FormulaTree}
use Rattle.tsl_terms.specs.SpecTree.{SpecTree}
use Rattle.tsl_terms.specs.SpecView.{spec_tree}
use Rattle.tsl_terms.specs.WellFormed.{SpecFits}
use Rattle.tsl_terms.specs.Value.{Meanings}
use Rattle.program_tree.specs.ProgramTree.{ProgramTree}
use Rattle.program_tree.specs.Writable.{IsWritable}
use Rattle.tsl_meaning.specs.Interpretation.{Interpretation, IsInterpretation, IsInputLoop, meanings_in}
use Rattle.tsl_meaning.specs.Lasso.{meets}
use Rattle.tsl_meaning.specs.OverNames.{IsProgramOver}
use Rattle.tsl_meaning.specs.RunTree.{RunTree}
use Rattle.tsl_meaning.specs.RunLasso.{run_lasso}
use Rattle.table_interp.specs.Meaning.{meanings_of}
use Rattle.word_interp.specs.Meaning.{meanings_of as meanings_of_words}
use Rattle.checking_commands.specs.declared.meaning.Meaning.{Meaning}
use Rattle.checking_commands.specs.declared.meaning.Meaning.TheVariants.{Tables, Words}
use Rattle.checking_commands.specs.declared.meaning.Refused.{Refused}
use Rattle.checking_commands.specs.declared.meaning.Refused.TheVariants.{AtFault, NoMemory}
use Rattle.checking_commands.specs.declared.parting.Parts.{Parts}
use Rattle.checking_commands.specs.declared.parting.Style.{Style}
use Rattle.command_faults.specs.HeadLines.{HasNoLine, IsFirstLineAt}
use Rattle.checking_commands.specs.Run.{RunInput, given_names, HasMeaningFault}
use Rattle.checking_commands.specs.RunParts.{RunParts, line_of, other_style}

abbrev pub run_parts : Parts → RunParts
run_parts parts = record {
  spec = parts.spec.now;
  program = parts.program.now;
  style = parts.style;
  meaning = parts.meaning.now;
  inputs = parts.inputs.now;
}

-- the first line of the text that begins tables or machine words begins at this offset, and is of this style
pub record IsFirstLine (text : List ℕ) (style : Style) (at : ℕ) : Type 0 where
  pub first : IsFirstLineAt text (line_of style) at
  pub comes_first : (other : ℕ) → IsBetweenFeeds text (line_of (other_style style)) other → at ≤ other

-- no line of the text begins tables or machine words
abbrev pub HasNoMeaning : List ℕ → Type 0
HasNoMeaning text = (style : Style) → HasNoLine text (line_of style)

-- the specification that is lent, where one is
abbrev pub given_spec : Option (Bor Spec) → Option SpecTree
given_spec lent = option_map spec_tree (option_copied lent)

abbrev pub GivenFits : Option SpecTree → Type 0
GivenFits None = Unit {0}
GivenFits (Some spec) = SpecFits spec

-- no part has more bytes than a text that is run
pub record AreShort (parts : RunParts) : Type 0 where
  pub spec : length parts.spec ≤ 2 ^ 24
  pub program : length parts.program ≤ 2 ^ 24
  pub meaning : length parts.meaning ≤ 2 ^ 24
  pub inputs : length parts.inputs ≤ 2 ^ 24

-- the program can run over the interpretation and the inputs
pub record IsReady (input : RunInput) : Type 0 where
  pub given : GivenFits input.given
  pub more_names : List Name
  pub names_are : input.names ≡ given_names input.given ++ more_names
  pub over_names : IsProgramOver input.names input.program
  pub writable : IsWritable input.names input.program
  pub interpretation : IsInterpretation input.names input.program.cells input.interpretation
  pub rows : IsInputLoop input.interpretation.domain input.program.inputs input.rows
  pub few_rows : length (input.rows.stem ++ input.rows.cycle) < 2 ^ 32

-- the interpretation that is read, and what symbols and cells mean under it
abbrev pub interpretation_read : Meaning → Interpretation
interpretation_read (Tables tables) = tables.interpretation
interpretation_read (Words words) = words.interpretation

abbrev pub meanings_read : Meaning → Meanings ℕ
meanings_read (Tables tables) = meanings_of tables
meanings_read (Words words) = meanings_of_words words

-- it is what the symbols of a program with these names and cells mean under the interpretation
abbrev pub MeansInPrograms : List Name → List ℕ → Meaning → Type 0
MeansInPrograms names cells meaning = (program : ProgramTree) → program.cells ≡ cells →
    meanings_read meaning ≡ meanings_in names program (interpretation_read meaning)

-- the text is refused in this style, at this fault, or memory ran out
abbrev pub IsRefusedAt : Style → List ℕ → List Name → List ℕ → Refused → Type 0
IsRefusedAt style text names cells (AtFault fault) = HasMeaningFault style text names cells fault
IsRefusedAt style text names cells NoMemory = Unit {0}

-- whether a formula holds at the first position of a run that is written down, and whether each of a list does
abbrev pub verdict_in : Meanings ℕ → RunTree ℕ → FormulaTree → Bool
verdict_in meanings run formula = meets (run_lasso meanings run) formula 0

abbrev pub verdicts_in : Meanings ℕ → RunTree ℕ → List FormulaTree → List Bool
verdicts_in meanings run formulas = map (verdict_in meanings run) formulas
