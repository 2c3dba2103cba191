-- A fault of the form, and a cause of what is given, is a cause of the text.
use Rattle.std.proofs.Common.{ℕ, List}
use Rattle.tsl_terms.specs.Name.{Name}
use Rattle.table_syntax.specs.declared.forms.TextFault.{TextFault}
use Rattle.table_syntax.specs.declared.forms.TextFault.TheVariants.{NoMemory}
use Rattle.table_syntax.specs.Syntax.{TablesSyntax, InputsSyntax}
use Rattle.table_syntax.specs.Grammar.{IsTables, IsInputs}
use Rattle.table_syntax.specs.Forms.{IsRead, HasTextFault}
use Rattle.entry_names.specs.declared.locating.EntryFault.{EntryFault}
use Rattle.entry_names.specs.declared.locating.EntryFault.TheVariants as entry
use Rattle.entry_names.specs.Needed.{needed}
use Rattle.entry_names.specs.Entries.{HasEntryFault}
use Rattle.table_interp.specs.declared.TableError.{TableError}
use Rattle.table_interp.specs.declared.TableError.TheVariants as table
use Rattle.table_interp.specs.declared.InputError.{InputError}
use Rattle.table_interp.specs.declared.InputError.TheVariants as input
use Rattle.table_interp.specs.Tables.{subjects_of, HasEntryCause, HasFewValues, HasTableCause}
use Rattle.table_interp.specs.Inputs.{HasRowCause, HasInputCause}
use Rattle.table_interp.specs.internal.Texts.{table_error, input_error, entry_error}

-- ---- tables

-- a fault of the entries is a cause of what is given
pub fault_cause : (names : List Name) (cells : List ℕ) (given : TablesSyntax) (fault : EntryFault) →
    HasEntryFault names (needed names cells) (subjects_of given) fault → HasEntryCause names cells given (entry_error fault)
fault_cause names cells given entry.NoMemory h = tt
fault_cause names cells given fault h = h

module _ (text : List ℕ) (names : List Name) (cells : List ℕ) where
  pub form_cause : (fault : TextFault) → HasTextFault IsTables text fault → HasTableCause text names cells (table_error fault)
  form_cause NoMemory h = tt
  form_cause fault h = h

  pub entry_cause : (given : TablesSyntax) → HasFewValues text given → (error : TableError) → HasEntryCause names cells given error →
      HasTableCause text names cells error
  entry_cause given h (table.Byte at) k = absurd k
  entry_cause given h (table.OpenComment at) k = absurd k
  entry_cause given h (table.Form at) k = absurd k
  entry_cause given h table.Domain k = absurd k
  entry_cause given h table.NoMemory k = tt
  entry_cause given h error k = record { given = given; read = h; cause = k }

-- ---- inputs

module _ (text : List ℕ) (names : List Name) (inputs : List ℕ) (domain : ℕ) where
  pub input_form_cause : (fault : TextFault) → HasTextFault IsInputs text fault → HasInputCause text names inputs domain (input_error fault)
  input_form_cause NoMemory h = tt
  input_form_cause fault h = h

  pub row_cause : (given : InputsSyntax) → IsRead IsInputs text given → (error : InputError) → HasRowCause names inputs given domain error →
      HasInputCause text names inputs domain error
  row_cause given h (input.Byte at) k = absurd k
  row_cause given h (input.OpenComment at) k = absurd k
  row_cause given h (input.Form at) k = absurd k
  row_cause given h input.NoMemory k = tt
  row_cause given h error k = record { given = given; read = h; cause = k }
