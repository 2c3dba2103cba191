-- A fault of the form or of the entries, and a cause of what is given, is a cause of the text.
use Rattle.std.proofs.Common.{ℕ, List}
use Rattle.tsl_terms.specs.Name.{Name}
use Rattle.table_syntax.specs.declared.forms.TextFault.{TextFault}
use Rattle.table_syntax.specs.declared.forms.TextFault.TheVariants.{NoMemory}
use Rattle.table_syntax.specs.Syntax.{WordsSyntax}
use Rattle.table_syntax.specs.Grammar.{IsWords}
use Rattle.table_syntax.specs.Forms.{HasTextFault}
use Rattle.entry_names.specs.declared.locating.EntryFault.{EntryFault}
use Rattle.entry_names.specs.declared.locating.EntryFault.TheVariants as entry
use Rattle.entry_names.specs.Needed.{needed}
use Rattle.entry_names.specs.Entries.{HasEntryFault}
use Rattle.word_interp.specs.declared.WordError.{WordError}
use Rattle.word_interp.specs.declared.WordError.TheVariants as word
use Rattle.word_interp.specs.Words.{subjects_of, HasWordEntryCause, HasFewBits, HasWordsCause}
use Rattle.word_interp.specs.internal.Faults.{form_error, entry_error}

-- a fault of the entries is a cause of what is given
pub fault_cause : (names : List Name) (cells : List ℕ) (given : WordsSyntax) (fault : EntryFault) →
    HasEntryFault names (needed names cells) (subjects_of given) fault → HasWordEntryCause names cells given (entry_error fault)
fault_cause names cells given entry.NoMemory h = tt
fault_cause names cells given fault h = h

module _ (text : List ℕ) (names : List Name) (cells : List ℕ) where
  pub form_cause : (fault : TextFault) → HasTextFault IsWords text fault → HasWordsCause text names cells (form_error fault)
  form_cause NoMemory h = tt
  form_cause fault h = h

  pub entry_cause : (given : WordsSyntax) → HasFewBits text given → (error : WordError) → HasWordEntryCause names cells given error →
      HasWordsCause text names cells error
  entry_cause given h (word.Byte at) k = absurd k
  entry_cause given h (word.OpenComment at) k = absurd k
  entry_cause given h (word.Form at) k = absurd k
  entry_cause given h word.Width k = absurd k
  entry_cause given h word.NoMemory k = tt
  entry_cause given h error k = record { given = given; read = h; cause = k }
