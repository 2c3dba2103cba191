-- Readers of whole texts: they stop at the end alone. What they say of a text that they read, and of one that they refuse.
use Rattle.std.proofs.Common.{◌≡◌, suc, ◌≤◌, true, List, [], ◌∷◌, ◌++◌, length, ℕ, refl, ap, sym, ◌∙◌}
use Rattle.std.specs.Prelude.{Option, Some, None, Ok, Err}
use Rattle.reader_combinators.specs.Readers.{form, Answer, Reader, and_then, map_read, at_end, push, push_read, members}
use Rattle.reader_combinators.specs.Exact.{Grammar, Begins, Exact}
use Rattle.reader_combinators.proofs.Runs.{same_read}
use Rattle.reader_combinators.proofs.Iterates.{no_step_left, step_shrinks}
use Rattle.reader_combinators.proofs.Lists.{Member, stepping}
use Rattle.reader_combinators.proofs.Whole.{derives_all}
use Rattle.reader_combinators.proofs.FirstFaults as first
use Rattle.reader_combinators.proofs.Taken.{Never}

-- a reader that stops at the end alone
pub record Ends {T V : Type 0} (reader : Reader T V) : Type 0 where
  pub ends : (xs : List T) (v : V) (rest : List T) → reader xs ≡ Ok (v, rest) → rest ≡ []

pub ends_at_end : {T : Type 0} → Ends {T = T} at_end
unfolding at_end
ends_at_end {T = T} = record { ends = by } where
  by : (xs : List T) (v : Unit {0}) (rest : List T) → at_end xs ≡ Ok (v, rest) → rest ≡ []
  by [] v rest h = sym (same_read (Ok (tt {0}, [])) (tt {0}) v [] rest refl h).1
  by (x ∷ xs) v rest h = cc

pub ends_map : {T V W : Type 0} (make : V → W) {reader : Reader T V} → Ends reader → Ends (λ xs. map_read make (reader xs))
ends_map {T = T} {V = V} {W = W} make {reader = reader} k = record { ends = λ xs w rest h. by xs w rest (reader xs) refl h } where
  by : (xs : List T) (w : W) (rest : List T) (answer : Answer T V) → reader xs ≡ answer → map_read make answer ≡ Ok (w, rest) → rest ≡ []
  by xs w rest (Ok (v, left)) e h = sym (same_read (Ok (make v, left)) (make v) w left rest refl h).1 ∙ k.ends xs v left e
  by xs w rest (Err fault) e h = cc

pub ends_then : {T V W : Type 0} (reader : Reader T V) {next : V → Reader T W} → ((v : V) → Ends (next v)) →
    Ends (λ xs. and_then (reader xs) next)
ends_then {T = T} {V = V} {W = W} reader {next = next} k =
    record { ends = λ xs w rest h. by w rest (reader xs) h } where
      by : (w : W) (rest : List T) (answer : Answer T V) → and_then answer next ≡ Ok (w, rest) → rest ≡ []
      by w rest (Ok (v, left)) h = (k v).ends left w rest h
      by w rest (Err fault) h = cc

module _ {T V : Type 0} {Is : Grammar T V} {starts ends : T → Type 0} {levels_left : ℕ} {member : List T → Option (Answer T V)}
    {reader : Reader T V} where
  -- so do members that are read as long as any terminal is left
  pub ends_members : Member Is starts ends levels_left member (λ x. true) reader → Ends (members member)
  ends_members k = record { ends = by } where
    by : (xs : List T) (vs : List V) (rest : List T) → members member xs ≡ Ok (vs, rest) → rest ≡ []
    by xs vs [] h = refl
    by xs vs (x ∷ rest) h =
        let none : push member vs (x ∷ rest) ≡ None = no_step_left (step_shrinks (stepping k)) [] xs vs (x ∷ rest) h in
        let some : push member vs (x ∷ rest) ≡ push_read vs (Some (reader (x ∷ rest))) = ap (push_read vs) (k.some x rest refl) in
        cc

-- what is read derives
pub whole_derives : {T V : Type 0} {Is : Grammar T V} {ends : T → Type 0} {levels_left : ℕ} {reader : Reader T V} →
    Exact Is ends levels_left reader →
    Ends reader → (xs : List T) (v : V) (rest : List T) → reader xs ≡ Ok (v, rest) → (rest ≡ []) × Is levels_left xs v
whole_derives exact k xs v rest h = (k.ends xs v rest h, derives_all exact xs v rest h (k.ends xs v rest h))

module _ {T V : Type 0} {Is : List T → V → Type 0} {reader : Reader T V} (exact : Exact (λ r. Is) Never 0 reader) where
  pub read_derives : Ends reader → (xs : List T) (v : V) (rest : List T) → reader xs ≡ Ok (v, rest) → Is xs v
  read_derives ends xs v rest h = (whole_derives exact ends xs v rest h).1

  pub form_within : (xs : List T) (left : ℕ) → reader xs ≡ Err (form left) → left ≤ length xs
  form_within xs left h = first.form_within exact xs left h

  -- nothing begins with the terminals up to and with the faulty one
  pub stops : (xs : List T) (left : ℕ) → reader xs ≡ Err (form left) → (front : List T) (x : T) (more : List T) →
      xs ≡ front ++ x ∷ more → left ≡ suc (length more) → (zs : List T) (v : V) → Is ((front ++ x ∷ []) ++ zs) v → ⊥
  stops xs left h front x more split here = first.form_stops exact xs left h front x more split here 0

  -- something begins with those before it
  pub begins_before : (xs : List T) (left : ℕ) → reader xs ≡ Err (form left) → (front rest : List T) → xs ≡ front ++ rest →
      left ≡ length rest → Begins Is front
  begins_before xs left h front rest split here =
      let begins = first.form_begins exact xs left h front rest split here in
      record { ending = begins.0; value = begins.1; derives = begins.2 }

  -- and the whole has no value
  pub no_value : (xs : List T) (left : ℕ) → reader xs ≡ Err (form left) → (v : V) → Is xs v → ⊥
  no_value xs left h = first.no_value exact xs left h 0
