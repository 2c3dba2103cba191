-- A text has at most one cause why it spells no interpretation of names with cells, and none where it spells one.
use Rattle.std.proofs.Common.{◌≡◌, ℕ, List, refl, ap, inl, inr}
use Rattle.std.specs.Prelude.{◌≢◌, is_some}
use Rattle.std.specs.List.{find}
use Rattle.tsl_terms.specs.Name.{Name}
use Rattle.table_syntax.specs.Syntax.{WordsSyntax}
use Rattle.table_syntax.specs.Grammar.{IsWords}
use Rattle.table_syntax.specs.declared.forms.TextFault.TheVariants as fault
use Rattle.table_syntax.proofs.Readings.{same_words}
use Rattle.entry_names.specs.Needed.{needed}
use Rattle.entry_names.specs.declared.locating.EntryFault.TheVariants as entry
use Rattle.base_library.proofs.Causes.{Causes, found, above, told_with, told, after, and_then}
use Rattle.entry_names.proofs.OneCause.{misread}
use Rattle.entry_names.proofs.OneFault.{misplaced}
use Rattle.word_interp.specs.declared.TheConstants.{MOST_BITS}
use Rattle.word_interp.specs.declared.WordError.{WordError}
use Rattle.word_interp.specs.declared.WordError.TheVariants as error
use Rattle.word_interp.specs.Words.{subjects_of, has_other_arity, too_large, AreInRange, HasWordEntryCause, HasWordsCause, IsRefusedAsWords}
use Rattle.word_interp.specs.internal.Faults.{form_error, entry_error}

module _ (text : List ℕ) (names : List Name) (cells : List ℕ) where
  -- why entries give no interpretation
  abbrev of_entries : WordsSyntax → Causes WordError
  of_entries given =
      and_then (told entry_error (misplaced names (needed names cells) (subjects_of given)))
      (and_then (told error.Arity (found (find (has_other_arity names given) (needed names cells))))
      (told (λ (p : ℕ × ℕ). error.Range p.0 p.1)
      (told_with (found (find (λ id. is_some (too_large names given id)) (needed names cells))) (too_large names given))))

  -- and why the text spells none
  abbrev causes : Causes WordError
  causes =
      after (told form_error (misread IsWords text)) (λ p. p.0) (λ p q. same_words text p.0 q.0 p.1 q.1)
      (λ given. and_then (told (λ _. error.Width) (above MOST_BITS given.bits)) (of_entries given))

  of_entry : (given : WordsSyntax) (e : WordError) → HasWordEntryCause names cells given e → e ≢ error.NoMemory → (of_entries given).Has e
  of_entry given (error.Unknown s f) h other = inl (entry.Unknown s f, (h, λ e. other (ap entry_error e)), refl)
  of_entry given (error.Twice s f) h other = inl (entry.Twice s f, (h, λ e. other (ap entry_error e)), refl)
  of_entry given (error.Missing id) h other = inl (entry.Missing id, (h, λ e. other (ap entry_error e)), refl)
  of_entry given (error.Arity id) h other = inr (h.so_far, inl (id, h.first, refl))
  of_entry given (error.Range id value) h other =
      inr (h.so_far.so_far, inr (h.so_far.fitting, ((id, value), (h.first, h.number), refl)))
  of_entry given error.NoMemory h other = absurd (other refl)
  of_entry given e h other = absurd h

  has : (e : WordError) → HasWordsCause text names cells e → e ≢ error.NoMemory → causes.Has e
  has (error.Byte at) h other = inl (fault.Byte at, (h, λ e. other (ap form_error e)), refl)
  has (error.OpenComment at) h other = inl (fault.OpenComment at, (h, λ e. other (ap form_error e)), refl)
  has (error.Form at) h other = inl (fault.Form at, (h, λ e. other (ap form_error e)), refl)
  has error.Width h other = inr ((h.given, h.read), inl (tt, h.many_bits, refl))
  has error.NoMemory h other = absurd (other refl)
  has e h other = inr ((h.given, h.read.read), inr (h.read.few_bits, of_entry h.given e h.cause other))

  pass : (given : WordsSyntax) → AreInRange names cells given → (of_entries given).Passes
  pass given h = (h.so_far.so_far, (h.so_far.fitting, h.in_range))

  pub one_words_cause : (a b : WordError) → a ≢ error.NoMemory → b ≢ error.NoMemory → HasWordsCause text names cells a →
      HasWordsCause text names cells b → a ≡ b
  one_words_cause a b first second h k = causes.one a b (has a h first) (has b k second)

  -- where a cause is there the text spells no interpretation
  pub words_refused : (e : WordError) → HasWordsCause text names cells e → IsRefusedAsWords text names cells e
  words_refused error.NoMemory h = tt
  words_refused e h = λ i spelled.
      causes.refuses e (has e h (λ same. cc))
      ((spelled.given, spelled.read.read), (spelled.read.few_bits, pass spelled.given spelled.gives.in_range))
