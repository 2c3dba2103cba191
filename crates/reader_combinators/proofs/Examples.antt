-- A small reader that takes all its laws from this crate: a name, and then numbers in square brackets.
use Rattle.std.proofs.Common.{◌≡◌, ℕ, Bool, true, false, List, [], ◌∷◌, ◌++◌, refl, arith}
use Rattle.std.specs.Prelude.{Option, Some, None, Ok, Err}
use Rattle.reader_combinators.specs.Readers.{form, Answer, Reader, form_at, closing, after, closed_by, map_read, iterate_most, iterate}
use Rattle.reader_combinators.specs.Readers.{members, found_or_wrong}
use Rattle.reader_combinators.specs.Exact.{Grammar, Begins, Exact}
use Rattle.reader_combinators.proofs.Runs.{exact_as}
use Rattle.reader_combinators.proofs.Then.{Any, Tells, IsClosed, closed_exact}
use Rattle.reader_combinators.proofs.Terminals.{Turn, by_first, end_wrong, turn_wrong, turn_alone, turn_takes, IsAfter, after_exact}
use Rattle.reader_combinators.proofs.Lists.{AreAll, none, some, Member, members_exact}
use Rattle.reader_combinators.proofs.Whole.{HasFirstForm, reads_all, one_value, first_form}

data Token : Type 0 where
  name : List ℕ → Token
  number : ℕ → Token
  opener : Token
  closer : Token

-- ---- the grammar

data AreNumbers : List Token → List ℕ → Type 0 where
  no_number : AreNumbers [] []
  more_numbers : {xs : List Token} {ks : List ℕ} (k : ℕ) → AreNumbers xs ks → AreNumbers (number k ∷ xs) (k ∷ ks)

abbrev Entry : Type 0
Entry = List ℕ × List ℕ

-- entry = name "[" number* "]"
data IsEntry : List Token → Entry → Type 0 where
  entry : {xs : List Token} {ks : List ℕ} (n : List ℕ) → AreNumbers xs ks → IsEntry (name n ∷ opener ∷ (xs ++ closer ∷ [])) (n, ks)

-- ---- the reader

abbrev is_opener : Token → Bool
is_opener opener = true
is_opener _ = false

abbrev is_closer : Token → Bool
is_closer closer = true
is_closer _ = false

abbrev is_number : Token → Bool
is_number (number k) = true
is_number _ = false

abbrev a_number : List Token → Option (Answer Token ℕ)
a_number (number k ∷ rest) = Some (Ok (k, rest))
a_number _ = None

abbrev numbers : Reader Token (List ℕ)
numbers xs = members a_number xs

abbrev bracketed : Reader Token (List ℕ)
bracketed xs = after is_opener (closed_by is_closer numbers) xs

abbrev read_entry : Reader Token Entry
read_entry (name n ∷ rest) = map_read (λ ks. (n, ks)) (bracketed rest)
read_entry xs = form_at xs

-- `a [1 2]`
an_entry : read_entry (name (97 ∷ []) ∷ opener ∷ number 1 ∷ number 2 ∷ closer ∷ []) ≡ Ok ((97 ∷ [], 1 ∷ 2 ∷ []), [])
unfolding after closing iterate iterate_most
an_entry = refl

-- `a [1 a]` is wrong at the second `a`
a_fault : read_entry (name (97 ∷ []) ∷ opener ∷ number 1 ∷ name (97 ∷ []) ∷ closer ∷ []) ≡ Err (form 2)
unfolding after closing iterate iterate_most
a_fault = refl

-- ---- it reads the grammar exactly

abbrev IsNumber : Grammar Token ℕ
IsNumber r xs k = xs ≡ number k ∷ []

abbrev Closes : Token → Type 0
Closes x = is_closer x ≡ true

number_member : (levels_left : ℕ) → Member IsNumber Any Closes levels_left a_number is_number (λ xs. found_or_wrong (a_number xs) xs)
number_member levels_left = record {
  at_end = refl;
  none = none_here;
  some = some_here;
  begins = λ r xs k h. (number k, [], h, refl);
  lift = λ r xs k h. h;
  follows = λ x e. tt;
  stops = stops;
  weaker = λ x h. tt;
  turn = turn;
} where
  none_here : (x : Token) (rest : List Token) → is_number x ≡ false → a_number (x ∷ rest) ≡ None
  none_here (number k) rest e = cc
  none_here _ rest e = refl

  some_here : (x : Token) (rest : List Token) → is_number x ≡ true →
      a_number (x ∷ rest) ≡ Some (found_or_wrong (a_number (x ∷ rest)) (x ∷ rest))
  some_here (number k) rest e = refl
  some_here _ rest e = cc

  stops : (x : Token) → is_closer x ≡ true → is_number x ≡ false
  stops closer e = refl
  stops _ e = cc

  turn : (x : Token) → is_number x ≡ true → Turn IsNumber Any levels_left (λ xs. found_or_wrong (a_number xs) xs) x
  turn (number k) e = turn_alone k (λ rest. refl) (λ r. refl) (λ r ys j h. (cc, cc))
  turn _ e = cc

are_numbers : (r : ℕ) (xs : List Token) (ks : List ℕ) → AreAll IsNumber r xs ks → AreNumbers xs ks
are_numbers r xs ks none = no_number
are_numbers r xs ks (some {g = g} {v = k} {vs = js} h rest) = rw h (more_numbers k (are_numbers r g js rest))

all_numbers : (r : ℕ) (xs : List Token) (ks : List ℕ) → AreNumbers xs ks → AreAll IsNumber r xs ks
all_numbers r xs ks no_number = none
all_numbers r xs ks (more_numbers {xs = ys} {ks = js} k h) = some {f = number k ∷ []} refl (all_numbers r ys js h)

abbrev InBrackets : Grammar Token (List ℕ)
InBrackets = IsAfter is_opener (IsClosed closer (λ r. AreNumbers))

one_closer : Tells is_closer closer
one_closer = record { yes = refl; only = only } where
  only : (x : Token) → is_closer x ≡ true → x ≡ closer
  only closer e = refl
  only _ e = cc

bracketed_exact : (levels_left : ℕ) → Exact InBrackets Any levels_left bracketed
bracketed_exact levels_left =
    after_exact is_opener opener refl (record { ending = closer ∷ []; value = []; derives = ([], refl, no_number) })
    (closed_exact one_closer refl (λ r xs ks h. h)
    (exact_as are_numbers all_numbers (λ x h. h) (members_exact (number_member levels_left))))

-- how an entry goes on after its first token
abbrev EntryCase : Grammar Token Entry
EntryCase r (name n ∷ ys) v = (ks : List ℕ) × InBrackets r ys ks × (v ≡ (n, ks))
EntryCase r _ v = ⊥

entry_case : (r : ℕ) (xs : List Token) (v : Entry) → IsEntry xs v → EntryCase r xs v
entry_case r xs v (entry {xs = ys} {ks = ks} n h) = (ks, (refl, (ys, refl, h)), refl)

opener_is : (x : Token) → is_opener x ≡ true → x ≡ opener
opener_is opener e = refl
opener_is _ e = cc

case_entry : (r : ℕ) (xs : List Token) (v : Entry) → EntryCase r xs v → IsEntry xs v
case_entry r (name n ∷ []) v h = absurd h.1
case_entry r (name n ∷ x ∷ ys) v h = rw (opener_is x h.1.0, h.1.1.1, h.2) (entry n h.1.1.2)
case_entry r _ v h = absurd h

entry_exact : (levels_left : ℕ) → Exact (λ r. IsEntry) Any levels_left read_entry
entry_exact levels_left = exact_as case_entry entry_case (λ x h. h) (by_first (end_wrong refl some_entry (λ r v h. h)) turn) where
  some_entry : Begins (EntryCase levels_left) []
  some_entry = record {
    ending = name [] ∷ opener ∷ closer ∷ [];
    value = ([], []);
    derives = ([], (refl, ([], refl, no_number)), refl);
  }

  turn : (x : Token) → Turn EntryCase Any levels_left read_entry x
  turn (name n) = turn_takes (λ ks. (n, ks)) bracketed (λ rest. refl) (λ y h. h) (λ r ys ks h. (ks, h, refl)) (λ r ys v h. h)
      (bracketed_exact levels_left)
  turn _ = turn_wrong (λ rest. refl) some_entry (λ r ys v h. h)

-- ---- what follows

each_entry_is_read : (xs : List Token) (v : Entry) → IsEntry xs v → read_entry xs ≡ Ok (v, [])
each_entry_is_read xs v h = reads_all (entry_exact 0) 0 (omega arith) xs v h

one_entry : (xs : List Token) (v w : Entry) → IsEntry xs v → IsEntry xs w → v ≡ w
one_entry = one_value (entry_exact 0)

faults_are_the_first : (xs : List Token) (left : ℕ) → read_entry xs ≡ Err (form left) → HasFirstForm (λ r. IsEntry) 0 xs left
faults_are_the_first = first_form (entry_exact 0)
