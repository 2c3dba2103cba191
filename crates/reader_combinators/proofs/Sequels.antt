-- Forms that need no levels, one after another, and other values of what they are read as.
use Rattle.std.proofs.Common.{◌≡◌, ℕ, List, [], ◌∷◌, ◌++◌, refl, ap, ◌∙◌}
use Rattle.std.specs.Prelude.{Option}
use Rattle.reader_combinators.specs.Readers.{Reader, and_then, map_read}
use Rattle.reader_combinators.specs.Exact.{Grammar, Before, Begins, Exact}
use Rattle.reader_combinators.proofs.Runs.{exact_map}
use Rattle.reader_combinators.proofs.Then.{Any, before_any, IsThen, exact_then}
use Rattle.reader_combinators.proofs.Taken.{IsOne, IsEnd, Never}

module _ {T V W : Type 0} where
  -- another value of a form
  abbrev pub IsMapped : (V → W) → Grammar T V → Grammar T W
  IsMapped make Is r xs w = (v : V) × Is r xs v × (w ≡ make v)

  pub mapped_exact : (make : V → W) {Is : Grammar T V} {ends : T → Type 0} {levels_left : ℕ} {reader : Reader T V} →
      Exact Is ends levels_left reader →
      Exact (IsMapped make Is) ends levels_left (λ xs. map_read make (reader xs))
  mapped_exact make k = exact_map make (λ r xs v h. (v, h, refl)) (λ r xs w h. h) k

  pub mapped_begins : (make : V → W) (Is : Grammar T V) (r : ℕ) → Begins (Is r) [] → Begins (IsMapped make Is r) []
  mapped_begins make Is r b = record { ending = b.ending; value = make b.value; derives = (b.value, b.derives, refl) }

  -- a form whose terminals do not depend on levels, and then another
  abbrev pub Then : (List T → V → Type 0) → (V → Grammar T W) → Grammar T W
  Then Is Next = IsThen (λ r. Is) Next

  pub then_begins : (Is : List T → V → Type 0) (Next : V → Grammar T W) (r : ℕ) → Begins Is [] → ((v : V) → Begins (Next v r) []) →
      Begins (Then Is Next r) []
  then_begins Is Next r b next = record {
    ending = b.ending ++ (next b.value).ending;
    value = (next b.value).value;
    derives = record {
      value = b.value;
      front = b.ending;
      tail = (next b.value).ending;
      split = refl;
      first = b.derives;
      second = (next b.value).derives;
    };
  }

  -- what is before anything
  pub then_exact : {Is : List T → V → Type 0} {Next : V → Grammar T W} {ends : T → Type 0} {levels_left : ℕ} {reader : Reader T V}
      {next : V → Reader T W} → ((r : ℕ) (v : V) → Begins (Next v r) []) → Exact (λ r. Is) Any levels_left reader →
      ((v : V) → Exact (Next v) ends levels_left (next v)) → Exact (Then Is Next) ends levels_left (λ xs. and_then (reader xs) next)
  then_exact begins k second =
      exact_then (record { lift = λ r xs v h. h; default = begins }) (λ r v xs w h rest b. before_any (xs ++ rest)) k second

  -- what is before some terminals, with which each further form begins
  pub then_before : {Is : List T → V → Type 0} {Next : V → Grammar T W} {firsts ends : T → Type 0} {levels_left : ℕ} {reader : Reader T V}
      {next : V → Reader T W} → ((r : ℕ) (v : V) → Begins (Next v r) []) →
      ((r : ℕ) (v : V) (xs : List T) (w : W) → Next v r xs w → (rest : List T) → Before ends rest → Before firsts (xs ++ rest)) →
      Exact (λ r. Is) firsts levels_left reader → ((v : V) → Exact (Next v) ends levels_left (next v)) →
      Exact (Then Is Next) ends levels_left (λ xs. and_then (reader xs) next)
  then_before begins follow k second = exact_then (record { lift = λ r xs v h. h; default = begins }) follow k second

-- what is nothing more follows whatever may end
pub nothing_follows : {T V : Type 0} (firsts : T → Type 0) (make : Unit {0} → V) (r : ℕ) (xs : List T) (v : V) →
    IsMapped make IsEnd r xs v → (rest : List T) → Before Never rest → Before firsts (xs ++ rest)
nothing_follows firsts make r xs v h [] b = rw h.1 tt
nothing_follows firsts make r xs v h (x ∷ rest) b = absurd b

-- what begins with one terminal is that one and the rest
pub after_one : {T V W : Type 0} {value : T → Option V} {Next : V → Grammar T W} {r : ℕ} {xs : List T} {w : W}
    (h : Then (IsOne value) Next r xs w) → xs ≡ h.first.0 ∷ h.tail
after_one h = h.split ∙ ap (λ front. front ++ h.tail) h.first.1
