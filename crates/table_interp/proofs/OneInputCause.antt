-- A text has at most one cause why it spells no rows for inputs, and none where it spells them.
use Rattle.std.proofs.Common.{◌≡◌, ◌∙◌, ℕ, Bool, List, None, length, map, not, refl, sym, ap, arith, inl, inr, ⊎_elim}
use Rattle.std.specs.Prelude.{◌≢◌, option_and_then, slice_get, is_some}
use Rattle.std.specs.List.{find}
use Rattle.std.proofs.lemmas.Bool.{cases_lt, false≢true}
use Rattle.base_library.proofs.Finds.{find_none_at}
use Rattle.tsl_terms.specs.Name.{Name}
use Rattle.table_syntax.specs.Syntax.{TextToken, InputsSyntax}
use Rattle.table_syntax.specs.Grammar.{IsInputs}
use Rattle.table_syntax.specs.declared.forms.TextFault.TheVariants as fault
use Rattle.table_syntax.proofs.Readings.{same_inputs}
use Rattle.entry_names.specs.Needed.{number_for}
use Rattle.base_library.proofs.Causes.{Causes, above, told_with, told, after, and_then}
use Rattle.entry_names.proofs.OneCause.{misread, misnamed}
use Rattle.table_interp.specs.declared.TheConstants.{MOST_ROWS}
use Rattle.table_interp.specs.declared.InputError.{InputError}
use Rattle.table_interp.specs.declared.InputError.TheVariants as error
use Rattle.table_interp.specs.Inputs.{is_input_name, has_no_column, all_rows, has_other_width, is_no_value, IsFirstAt, AreWhole}
use Rattle.table_interp.specs.Inputs.{AreInRange, HasRowCause, HasInputCause, IsRefusedAsInputs}
use Rattle.table_interp.specs.internal.Texts.{input_error}

module _ (test : List ℕ → Bool) (rows : List (List ℕ)) where
  -- the first place at which a test holds is one place
  pub one_place : (i j : ℕ) → IsFirstAt test rows i → IsFirstAt test rows j → i ≡ j
  one_place i j h k =
      ⊎_elim (λ less. absurd (false≢true (sym (k.none_before i h.member less h.there) ∙ h.passed)))
      (λ back. ⊎_elim (λ less. absurd (false≢true (sym (h.none_before j k.member less k.there) ∙ k.passed)))
      (λ forth. omega (arith, back, forth)) (cases_lt j i))
      (cases_lt i j)

  pub none_at : (at : ℕ) → IsFirstAt test rows at → find test rows ≡ None → ⊥
  none_at at h none =
      false≢true (sym (find_none_at test rows at h.member none h.there) ∙ h.passed)

  -- a row passes a test
  abbrev pub first_row : Causes ℕ
  first_row = record { Passes = find test rows ≡ None; Has = IsFirstAt test rows; refuses = none_at; one = one_place }

module _ (text : List ℕ) (names : List Name) (inputs : List ℕ) (domain : ℕ) where
  -- why columns are not for the inputs, and why columns and rows give no rows for them
  abbrev of_columns : InputsSyntax → Causes InputError
  of_columns given =
      misnamed (λ (x : TextToken). x.token) error.Unknown error.Twice error.Missing
      (find (λ x. not (is_input_name names inputs x)) given.names) (map (number_for names) given.names) given.names
      (find (has_no_column names given) inputs)

  abbrev of_given : InputsSyntax → Causes InputError
  of_given given =
      and_then (of_columns given)
      (and_then (told (λ _. error.Rows) (above MOST_ROWS (length (all_rows given))))
      (and_then (told error.Count (first_row (has_other_width inputs) (all_rows given)))
      (told (λ (p : ℕ × ℕ). error.Range p.0 p.1)
      (told_with (first_row (λ r. is_some (find (is_no_value domain) r)) (all_rows given))
      (λ row. option_and_then (find (is_no_value domain)) (slice_get (all_rows given) row))))))

  abbrev causes : Causes InputError
  causes = after (told input_error (misread IsInputs text)) (λ p. p.0) (λ p q. same_inputs text p.0 q.0 p.1 q.1) of_given

  whole : (given : InputsSyntax) → AreWhole names inputs given → (of_columns given).Passes
  whole given h = (h.so_far.known, (h.so_far.once, h.whole))

  of_row : (given : InputsSyntax) (e : InputError) → HasRowCause names inputs given domain e → e ≢ error.NoMemory → (of_given given).Has e
  of_row given (error.Unknown s f) h other =
      inl (inl (h.column, h.first, sym (λ i. error.Unknown (h.starts i) (h.ends i))))
  of_row given (error.Twice s f) h other =
      inl (inr (h.known, inl ((h.at, h.column), (h.first, h.there), sym (λ i. error.Twice (h.starts i) (h.ends i)))))
  of_row given (error.Missing id) h other = inl (inr (h.so_far.known, inr (h.so_far.once, (id, h.first, refl))))
  of_row given error.Rows h other = inr (whole given h.so_far, inl (tt, h.many_rows, refl))
  of_row given (error.Count row) h other = inr (whole given h.so_far.so_far, inr (h.so_far.few_rows, inl (row, h.first, refl)))
  of_row given (error.Range row value) h other =
      let so_far = h.so_far.so_far in
      let number = ap (option_and_then (find (is_no_value domain))) h.first.there ∙ h.number in
      inr (whole given so_far.so_far, inr (so_far.few_rows, inr (h.so_far.counted, ((row, value), (h.first, number), refl))))
  of_row given error.NoMemory h other = absurd (other refl)
  of_row given e h other = absurd h

  has : (e : InputError) → HasInputCause text names inputs domain e → e ≢ error.NoMemory → causes.Has e
  has (error.Byte at) h other = inl (fault.Byte at, (h, λ e. other (ap input_error e)), refl)
  has (error.OpenComment at) h other = inl (fault.OpenComment at, (h, λ e. other (ap input_error e)), refl)
  has (error.Form at) h other = inl (fault.Form at, (h, λ e. other (ap input_error e)), refl)
  has error.NoMemory h other = absurd (other refl)
  has e h other = inr ((h.given, h.read), of_row h.given e h.cause other)

  pass : (given : InputsSyntax) → AreInRange names inputs given domain → (of_given given).Passes
  pass given h = (whole given h.so_far.so_far.so_far, (h.so_far.so_far.few_rows, (h.so_far.counted, h.in_range)))

  pub one_input_cause : (a b : InputError) → a ≢ error.NoMemory → b ≢ error.NoMemory → HasInputCause text names inputs domain a →
      HasInputCause text names inputs domain b → a ≡ b
  one_input_cause a b first second h k = causes.one a b (has a h first) (has b k second)

  -- where a cause is there the text spells no rows
  pub inputs_refused : (e : InputError) → HasInputCause text names inputs domain e → IsRefusedAsInputs text names inputs domain e
  inputs_refused error.NoMemory h = tt
  inputs_refused e h = λ rows spelled.
      causes.refuses e (has e h (λ same. cc)) ((spelled.given, spelled.read), pass spelled.given spelled.gives.in_range)
