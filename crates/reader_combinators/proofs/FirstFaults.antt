-- What a fault of an exact reader says of its grammar, at any place that the terminals are split at.
use Rattle.std.proofs.Common.{◌≡◌, ℕ, suc, ◌<◌, ◌≤◌, List, [], ◌∷◌, ◌++◌, length, ap, sym, ◌∙◌, append_assoc, length-append, arith}
use Rattle.std.specs.Prelude.{Err}
use Rattle.reader_combinators.specs.Readers.{form, deep, Reader}
use Rattle.reader_combinators.specs.Exact.{Grammar, both_begin, Exact}
use Rattle.reader_combinators.proofs.Runs.{same_first}
use Rattle.reader_combinators.proofs.Whole.{one_split, FirstForm, FirstDeep, first_form, first_deep}

module _ {T V : Type 0} (Is : Grammar T V) where
  -- some text begins with these terminals, and none does
  abbrev pub SomeBegins : ℕ → List T → Type 0
  SomeBegins r front = (rest : List T) × (v : V) × Is r (front ++ rest) v

  abbrev pub NoneBegins : ℕ → List T → Type 0
  NoneBegins r front = (rest : List T) (v : V) → Is r (front ++ rest) v → ⊥

module _ {T V : Type 0} {Is : Grammar T V} {ends : T → Type 0} {levels_left : ℕ} {reader : Reader T V}
    (exact : Exact Is ends levels_left reader) (xs : List T) (left : ℕ) where
  -- a form fault stands among the terminals or at their end
  pub form_within : reader xs ≡ Err (form left) → left ≤ length xs
  form_within h = let first = first_form exact xs left h in omega (arith, ap length first.2, first.3, length-append first.0 first.1)

  -- a level too many stands at a terminal
  pub deep_within : reader xs ≡ Err (deep left) → (0 < left) × (left ≤ length xs)
  deep_within h =
      let first = first_deep exact xs left h in
      (omega (arith, first.4), omega (arith, ap length first.3, first.4, length-append first.0 (first.1 ∷ first.2)))

  form_at : reader xs ≡ Err (form left) → (front rest : List T) → xs ≡ front ++ rest → left ≡ length rest →
      FirstForm Is levels_left front rest
  form_at h front rest split here =
      let first = first_form exact xs left h in
      let same = one_split first.0 front first.1 rest (sym first.2 ∙ split) (sym first.3 ∙ here) in
      rw (← same.0, ← same.1) first.4

  deep_at : reader xs ≡ Err (deep left) → (front : List T) (x : T) (more : List T) → xs ≡ front ++ x ∷ more → left ≡ suc (length more) →
      FirstDeep Is levels_left front x
  deep_at h front x more split here =
      let first = first_deep exact xs left h in
      let same = one_split first.0 front (first.1 ∷ first.2) (x ∷ more) (sym first.3 ∙ split) (sym first.4 ∙ here) in
      let at : first.1 ≡ x = (let both = same.1 in cc) in
      rw (← same.0, ← at) first.5

  -- no text begins with the terminals up to and with the faulty one, however many levels are left
  pub form_stops : reader xs ≡ Err (form left) → (front : List T) (x : T) (more : List T) →
      xs ≡ front ++ x ∷ more → left ≡ suc (length more) → (other : ℕ) → NoneBegins Is other (front ++ x ∷ [])
  form_stops h front x more split here other zs v derived =
      (form_at h front (x ∷ more) split here).stops (x ∷ zs) (both_begin x more zs) other v (rw (← append_assoc front (x ∷ []) zs) derived)

  pub deep_stops : reader xs ≡ Err (deep left) → (front : List T) (x : T) (more : List T) →
      xs ≡ front ++ x ∷ more → left ≡ suc (length more) → NoneBegins Is levels_left (front ++ x ∷ [])
  deep_stops h front x more split here zs v derived =
      (deep_at h front x more split here).stops zs v (rw (← append_assoc front (x ∷ []) zs) derived)

  -- terminals that have a form fault are no text, however many levels are left
  pub no_value : reader xs ≡ Err (form left) → (other : ℕ) → (v : V) → Is other xs v → ⊥
  no_value h other v derived =
      let first = first_form exact xs left h in
      first.4.stops first.1 (same_first first.1) other v (rw (← first.2) derived)

  -- some text begins with the terminals before a form fault
  pub form_begins : reader xs ≡ Err (form left) → (front rest : List T) → xs ≡ front ++ rest → left ≡ length rest →
      SomeBegins Is levels_left front
  form_begins h front rest split here =
      let begins = (form_at h front rest split here).begins in
      (begins.ending, begins.value, begins.derives)

  -- and with those before a level too many
  pub deep_begins : reader xs ≡ Err (deep left) → (front : List T) (x : T) (more : List T) →
      xs ≡ front ++ x ∷ more → left ≡ suc (length more) → SomeBegins Is levels_left front
  deep_begins h front x more split here =
      let begins = (deep_at h front x more split here).begins in
      (begins.ending, begins.value, begins.derives)

  -- with two levels more, some text begins with those up to and with it
  pub deep_goes_on : reader xs ≡ Err (deep left) → (front : List T) (x : T) (more : List T) →
      xs ≡ front ++ x ∷ more → left ≡ suc (length more) → SomeBegins Is (suc (suc levels_left)) (front ++ x ∷ [])
  deep_goes_on h front x more split here =
      let begins = (deep_at h front x more split here).goes_on in
      (begins.ending, begins.value, begins.derives)
