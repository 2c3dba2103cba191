-- Where none of some names reaches itself through uses, they have ranks that fall along uses.
use Rattle.std.proofs.Common.{◌≡◌, ℕ, zero, suc, ◌<◌, ◌≤◌, Bool, true, false, cond, List, [], ◌∷◌, length, refl, ap, ◌∙◌, inl, inr, arith}
use Rattle.std.specs.Prelude.{◌⊎◌, if◌then◌else◌}
use Rattle.std.specs.Str.{bytes_eq}
use Rattle.base_library.proofs.Bytes.{same_bytes, bytes_same}
use Rattle.definition_expansion.specs.Reaching.{Reaches, Among, first, later, UsesOne, Using}
use Rattle.definition_expansion.proofs.Cycles.{some_cycle}

abbrev Names : Type 0
Names = List (List ℕ)

none_among : (x : List ℕ) → Among x [] → ⊥
none_among x k = elim k [ ]

-- the names but for one
abbrev without : List ℕ → Names → Names
without y [] = []
without y (x ∷ xs) = if bytes_eq y x then without y xs else x ∷ without y xs

without_within : (y : List ℕ) (xs : Names) → length (without y xs) ≤ length xs
without_within y [] = omega arith
without_within y (x ∷ xs) = by (bytes_eq y x) (without_within y xs) where
  by : (is : Bool) → length (without y xs) ≤ length xs →
      length (if is then without y xs else x ∷ without y xs) ≤ suc (length xs)
  by true h = omega (arith, h)
  by false h = omega (arith, h)

without_shorter : (y : List ℕ) (xs : Names) → Among y xs → length (without y xs) < length xs
without_shorter y [] k = absurd (none_among y k)
without_shorter y (x ∷ xs) first =
    let gone : without y (y ∷ xs) ≡ without y xs = ap (λ is. if is then without y xs else y ∷ without y xs) (bytes_same y y refl) in
    omega (arith, ap length gone, without_within y xs)
without_shorter y (x ∷ xs) (later k) = by (bytes_eq y x) (without_shorter y xs k) where
  by : (is : Bool) → length (without y xs) < length xs →
      length (if is then without y xs else x ∷ without y xs) < suc (length xs)
  by true h = omega (arith, h)
  by false h = omega (arith, h)

still_among : (x y : List ℕ) (xs : Names) → Among x xs → bytes_eq y x ≡ false → Among x (without y xs)
still_among x y [] k other = absurd (none_among x k)
still_among x y (z ∷ xs) first other = by (bytes_eq y x) other where
  by : (is : Bool) → is ≡ false → Among x (if is then without y xs else x ∷ without y xs)
  by true e = cc
  by false e = first
still_among x y (z ∷ xs) (later k) other = by (bytes_eq y z) (still_among x y xs k other) where
  by : (is : Bool) → Among x (without y xs) → Among x (if is then without y xs else z ∷ without y xs)
  by true h = h
  by false h = later h

one_more : (x z : List ℕ) (xs ys : Names) → (Among x ys → Among x xs) → Among x (z ∷ ys) → Among x (z ∷ xs)
one_more x z xs ys rest first = first
one_more x z xs ys rest (later h) = later (rest h)

was_among : (x y : List ℕ) (xs : Names) → Among x (without y xs) → Among x xs
was_among x y [] k = k
was_among x y (z ∷ xs) k = by (bytes_eq y z) k (was_among x y xs) where
  by : (is : Bool) → Among x (if is then without y xs else z ∷ without y xs) → ((Among x (without y xs)) → Among x xs) →
      Among x (z ∷ xs)
  by true h rest = later (rest h)
  by false h rest = one_more x z xs (without y xs) rest h

module _ (uses : List ℕ → List ℕ → Bool) where
  -- the name uses none of these
  abbrev UsesNone : Names → List ℕ → Type 0
  UsesNone xs y = (z : List ℕ) → Among z xs → uses y z ≡ true → ⊥

  uses_one : (x : List ℕ) (xs : Names) → UsesNone xs x ⊎ UsesOne (Using uses) xs x
  uses_one x [] = inl (λ z k u. none_among z k)
  uses_one x (y ∷ ys) = by (uses x y) refl (uses_one x ys) where
    stays : uses x y ≡ false → UsesNone ys x → (z : List ℕ) → Among z (y ∷ ys) → uses x z ≡ true → ⊥
    stays e none z first u = cc
    stays e none z (later k) u = none z k u

    by : (b : Bool) → uses x y ≡ b → UsesNone ys x ⊎ UsesOne (Using uses) ys x → UsesNone (y ∷ ys) x ⊎ UsesOne (Using uses) (y ∷ ys) x
    by true e rest = inr (y, first, e)
    by false e (inl none) = inl (stays e none)
    by false e (inr found) = inr (found.0, later found.1, found.2)

  -- one of the names uses none of all of them, or each uses one
  one_uses_none : (all xs : Names) → ((y : List ℕ) × Among y xs × UsesNone all y) ⊎ ((y : List ℕ) → Among y xs → UsesOne (Using uses) all y)
  one_uses_none all [] = inr (λ y k. absurd (none_among y k))
  one_uses_none all (x ∷ xs) = by (uses_one x all) (one_uses_none all xs) where
    each : UsesOne (Using uses) all x → ((y : List ℕ) → Among y xs → UsesOne (Using uses) all y) →
        (y : List ℕ) → Among y (x ∷ xs) → UsesOne (Using uses) all y
    each here rest y first = here
    each here rest y (later k) = rest y k

    by : UsesNone all x ⊎ UsesOne (Using uses) all x →
        ((y : List ℕ) × Among y xs × UsesNone all y) ⊎ ((y : List ℕ) → Among y xs → UsesOne (Using uses) all y) →
        ((y : List ℕ) × Among y (x ∷ xs) × UsesNone all y) ⊎ ((y : List ℕ) → Among y (x ∷ xs) → UsesOne (Using uses) all y)
    by (inl none) rest = inl (x, first, none)
    by (inr here) (inl found) = inl (found.0, later found.1, found.2)
    by (inr here) (inr rest) = inr (each here rest)

  -- ranks of the names
  pub record Ranking (xs : Names) : Type 0 where
    pub rank : List ℕ → ℕ
    pub below : (x : List ℕ) → Among x xs → rank x < length xs
    pub falls : (x y : List ℕ) → Among x xs → Among y xs → uses x y ≡ true → rank y < rank x

  -- the name that uses none has the lowest rank
  ranked_first : (y : List ℕ) (xs : Names) → Among y xs → UsesNone xs y → Ranking (without y xs) → Ranking xs
  ranked_first y xs among none rest = record { rank = rank; below = below; falls = falls } where
    rank : List ℕ → ℕ
    rank x = cond (bytes_eq y x) 0 (suc (rest.rank x))

    below : (x : List ℕ) → Among x xs → rank x < length xs
    below x k = by (bytes_eq y x) refl where
      by : (is : Bool) → bytes_eq y x ≡ is → cond is 0 (suc (rest.rank x)) < length xs
      by true e = omega (arith, without_shorter y xs among)
      by false e = omega (arith, without_shorter y xs among, rest.below x (still_among x y xs k e))

    falls : (a b : List ℕ) → Among a xs → Among b xs → uses a b ≡ true → rank b < rank a
    falls a b j k u = by (bytes_eq y a) (bytes_eq y b) refl refl where
      is_first : bytes_eq y a ≡ true → ⊥
      is_first e =
          let same : y ≡ a = same_bytes y a e in
          none b k (ap (λ z. uses z b) same ∙ u)

      by : (s t : Bool) → bytes_eq y a ≡ s → bytes_eq y b ≡ t → cond t 0 (suc (rest.rank b)) < cond s 0 (suc (rest.rank a))
      by true t e f = absurd (is_first e)
      by false true e f = omega arith
      by false false e f = omega (arith, rest.falls a b (still_among a y xs j e) (still_among b y xs k f) u)

  ranked : (n : ℕ) (xs : Names) → length xs ≤ n → ((x : List ℕ) → Among x xs → Reaches (Using uses) x x → ⊥) → Ranking xs
  ranked n [] few acyclic =
      record { rank = λ x. 0; below = λ x k. absurd (none_among x k); falls = λ x y j k u. absurd (none_among x j) }
  ranked zero (x ∷ xs) few acyclic = absurd (omega (arith, few))
  ranked (suc n) (x ∷ xs) few acyclic = by (one_uses_none (x ∷ xs) (x ∷ xs))
      (λ y among. ranked n (without y (x ∷ xs)) (omega (arith, few, without_shorter y (x ∷ xs) among))
      (λ z k. acyclic z (was_among z y (x ∷ xs) k)))
    where
      by : ((y : List ℕ) × Among y (x ∷ xs) × UsesNone (x ∷ xs) y) ⊎ ((y : List ℕ) → Among y (x ∷ xs) → UsesOne (Using uses) (x ∷ xs) y) →
          ((y : List ℕ) → Among y (x ∷ xs) → Ranking (without y (x ∷ xs))) → Ranking (x ∷ xs)
      by (inl found) rest = ranked_first found.0 (x ∷ xs) found.1 found.2 (rest found.0 found.1)
      by (inr next) rest =
          let cycle = some_cycle (x ∷ xs) (Using uses) x first next in
          absurd (acyclic cycle.0 cycle.1 cycle.2)

  pub ranks_fall : (xs : Names) → ((x : List ℕ) → Among x xs → Reaches (Using uses) x x → ⊥) → Ranking xs
  ranks_fall xs acyclic = ranked (length xs) xs (omega arith) acyclic
