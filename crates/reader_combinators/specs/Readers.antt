-- Readers of lists of terminals, as functions that compute. Each gives what is read at the front and the terminals
-- after it, or the first fault.
use Rattle.std.specs.Prelude.{ℕ, zero, suc, Bool, List, [], ◌∷◌, ◌++◌, length, Option, Some, None, Result, Ok, Err, if◌then◌else◌}

-- The first fault, by how many terminals are left from it on: no text of the grammar without a bound on levels goes
-- on with that terminal, or only texts with a level above the bound do.
pub data Fault : Type 0 where
  form : (left : ℕ) → Fault
  deep : (left : ℕ) → Fault

-- what was read and what is left, or the first fault
abbrev pub Answer : Type 0 → Type 0 → Type 0
Answer T V = Result (V × List T) Fault

abbrev pub Reader : Type 0 → Type 0 → Type 0
Reader T V = List T → Answer T V

module _ {T V : Type 0} where
  -- a form fault at the front
  abbrev pub form_at : Reader T V
  form_at xs = Err (form (length xs))

  -- a level too many at the front
  abbrev pub deep_at : Reader T V
  deep_at xs = Err (deep (length xs))

  -- the value of the first terminal, where it has one
  abbrev pub value_or_wrong : Option V → T → Reader T V
  value_or_wrong (Some v) x rest = Ok (v, rest)
  value_or_wrong None x rest = form_at (x ∷ rest)

  -- a terminal that has a value
  unfoldable pub taking : (T → Option V) → Reader T V
  taking value [] = form_at []
  taking value (x ∷ rest) = value_or_wrong (value x) x rest

  -- a terminal that passes the test, and then a form
  unfoldable pub after : (T → Bool) → Reader T V → Reader T V
  after is reader [] = form_at []
  after is reader (x ∷ rest) = if is x then reader rest else form_at (x ∷ rest)

-- a terminal that passes the test
unfoldable pub closing : {T : Type 0} → (T → Bool) → Reader T (Unit {0})
closing is [] = form_at []
closing is (x ∷ rest) = if is x then Ok (tt {0}, rest) else form_at (x ∷ rest)

-- nothing more
unfoldable pub at_end : {T : Type 0} → Reader T (Unit {0})
at_end [] = Ok (tt {0}, [])
at_end (x ∷ rest) = form_at (x ∷ rest)

module _ {T V W : Type 0} where
  -- what was read, and then what is read after it
  abbrev pub and_then : Answer T V → (V → Reader T W) → Answer T W
  and_then (Err fault) next = Err fault
  and_then (Ok (v, rest)) next = next v rest

  -- another value of what was read
  abbrev pub map_read : (V → W) → Answer T V → Answer T W
  map_read make (Err fault) = Err fault
  map_read make (Ok (v, rest)) = Ok (make v, rest)

-- a form after its opening bracket, and the closing one
abbrev pub closed_by : {T V : Type 0} → (T → Bool) → Reader T V → Reader T V
closed_by is inner xs = and_then (inner xs) (λ v ys. map_read (λ _. v) (closing is ys))

module _ {T S : Type 0} where
  -- the state after a step where there is one, and then the further steps
  abbrev pub go_on : S → List T → Option (Answer T S) → (S → Reader T S) → Answer T S
  go_on s xs None further = Ok (s, xs)
  go_on s xs (Some (Err fault)) further = Err fault
  go_on s xs (Some (Ok (t, rest))) further = further t rest

  -- At most so many steps. `step` reads one from a state, or says that there is none.
  unfoldable pub iterate_most : ℕ → (S → List T → Option (Answer T S)) → S → Reader T S
  iterate_most zero step s xs = Ok (s, xs)
  iterate_most (suc most) step s xs = go_on s xs (step s xs) (iterate_most most step)

  -- as many steps as there are: each takes a terminal at least, so there are not more steps than terminals
  unfoldable pub iterate : (S → List T → Option (Answer T S)) → S → Reader T S
  iterate step s xs = iterate_most (suc (length xs)) step s xs

module _ {T V : Type 0} where
  -- the answer of a step or a member that was found; where none was, something else is wanted
  abbrev pub found_or_wrong : Option (Answer T V) → Reader T V
  found_or_wrong None xs = form_at xs
  found_or_wrong (Some answer) xs = answer

  -- a member after those that were read
  abbrev pub push_read : List V → Option (Answer T V) → Option (Answer T (List V))
  push_read vs None = None
  push_read vs (Some answer) = Some (map_read (λ v. vs ++ v ∷ []) answer)

  abbrev pub push : (List T → Option (Answer T V)) → List V → List T → Option (Answer T (List V))
  push member vs xs = push_read vs (member xs)

  -- a list of members, each read where `member` finds one
  abbrev pub members : (List T → Option (Answer T V)) → Reader T (List V)
  members member xs = iterate (push member) [] xs

  -- What the level below reads after the first of these terminals. Where there is no level below, the first one is a
  -- level too many.
  abbrev pub below : {L : Type 0} → Option L → (L → Reader T V) → Reader T V
  below None reader xs = deep_at xs
  below (Some level) reader [] = form_at []
  below (Some level) reader (x ∷ rest) = reader level rest
