-- A text has at most one cause why it spells no interpretation of names with cells, and none where it spells one.
use Rattle.std.proofs.Common.{◌≡◌, ℕ, List, refl, ap, inl, inr}
use Rattle.std.specs.Prelude.{◌≢◌, is_some}
use Rattle.std.specs.List.{find}
use Rattle.tsl_terms.specs.Name.{Name}
use Rattle.table_syntax.specs.Syntax.{TablesSyntax}
use Rattle.table_syntax.specs.Grammar.{IsTables}
use Rattle.table_syntax.specs.declared.forms.TextFault.TheVariants as fault
use Rattle.table_syntax.proofs.Readings.{same_tables}
use Rattle.entry_names.specs.Needed.{needed}
use Rattle.entry_names.specs.declared.locating.EntryFault.TheVariants as entry
use Rattle.base_library.proofs.Causes.{Causes, found, above, told_with, told, after, and_then}
use Rattle.entry_names.proofs.OneCause.{misread}
use Rattle.entry_names.proofs.OneFault.{misplaced}
use Rattle.table_interp.specs.declared.TheConstants.{MOST_VALUES}
use Rattle.table_interp.specs.declared.TableError.{TableError}
use Rattle.table_interp.specs.declared.TableError.TheVariants as error
use Rattle.table_interp.specs.Tables.{subjects_of, has_many_entries, has_other_length, too_large, IsInRange}
use Rattle.table_interp.specs.Tables.{HasEntryCause, HasTableCause, IsRefusedAsTables}
use Rattle.table_interp.specs.internal.Texts.{table_error, entry_error}

module _ (text : List ℕ) (names : List Name) (cells : List ℕ) where
  -- why entries give no interpretation
  abbrev of_entries : TablesSyntax → Causes TableError
  of_entries given =
      and_then (told entry_error (misplaced names (needed names cells) (subjects_of given)))
      (and_then (told error.Entries (found (find (has_many_entries names given) (needed names cells))))
      (and_then (told error.Count (found (find (has_other_length names given) (needed names cells))))
      (told (λ (p : ℕ × ℕ). error.Range p.0 p.1)
      (told_with (found (find (λ id. is_some (too_large names given id)) (needed names cells))) (too_large names given)))))

  -- and why the text spells none
  abbrev causes : Causes TableError
  causes =
      after (told table_error (misread IsTables text)) (λ p. p.0) (λ p q. same_tables text p.0 q.0 p.1 q.1)
      (λ given. and_then (told (λ _. error.Domain) (above MOST_VALUES given.domain)) (of_entries given))

  of_entry : (given : TablesSyntax) (e : TableError) → HasEntryCause names cells given e → e ≢ error.NoMemory → (of_entries given).Has e
  of_entry given (error.Unknown s f) h other = inl (entry.Unknown s f, (h, λ e. other (ap entry_error e)), refl)
  of_entry given (error.Twice s f) h other = inl (entry.Twice s f, (h, λ e. other (ap entry_error e)), refl)
  of_entry given (error.Missing id) h other = inl (entry.Missing id, (h, λ e. other (ap entry_error e)), refl)
  of_entry given (error.Entries id) h other = inr (h.so_far, inl (id, h.first, refl))
  of_entry given (error.Count id) h other = inr (h.so_far.so_far, inr (h.so_far.few_entries, inl (id, h.first, refl)))
  of_entry given (error.Range id value) h other =
      let so_far = h.so_far.so_far in
      inr (so_far.so_far, inr (so_far.few_entries, inr (h.so_far.counted, ((id, value), (h.first, h.number), refl))))
  of_entry given error.NoMemory h other = absurd (other refl)
  of_entry given e h other = absurd h

  has : (e : TableError) → HasTableCause text names cells e → e ≢ error.NoMemory → causes.Has e
  has (error.Byte at) h other = inl (fault.Byte at, (h, λ e. other (ap table_error e)), refl)
  has (error.OpenComment at) h other = inl (fault.OpenComment at, (h, λ e. other (ap table_error e)), refl)
  has (error.Form at) h other = inl (fault.Form at, (h, λ e. other (ap table_error e)), refl)
  has error.Domain h other = inr ((h.given, h.read), inl (tt, h.many_values, refl))
  has error.NoMemory h other = absurd (other refl)
  has e h other = inr ((h.given, h.read.read), inr (h.read.few_values, of_entry h.given e h.cause other))

  pass : (given : TablesSyntax) → IsInRange names cells given → (of_entries given).Passes
  pass given h = (h.so_far.so_far.so_far, (h.so_far.so_far.few_entries, (h.so_far.counted, h.in_range)))

  pub one_table_cause : (a b : TableError) → a ≢ error.NoMemory → b ≢ error.NoMemory → HasTableCause text names cells a →
      HasTableCause text names cells b → a ≡ b
  one_table_cause a b first second h k = causes.one a b (has a h first) (has b k second)

  -- where a cause is there the text spells no interpretation
  pub tables_refused : (e : TableError) → HasTableCause text names cells e → IsRefusedAsTables text names cells e
  tables_refused error.NoMemory h = tt
  tables_refused e h = λ i spelled.
      causes.refuses e (has e h (λ same. cc))
      ((spelled.given, spelled.read.read), (spelled.read.few_values, pass spelled.given spelled.gives.in_range))
