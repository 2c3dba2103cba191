-- The counter passes its last until: where each until is free of postponement within so many steps from anywhere, it does so
-- as often as one likes, each time within that many steps for each until and one more.
use Rattle.std.proofs.Common.{◌≡◌, ◌∙◌, ℕ, zero, suc, ◌+◌, ◌-◌, ◌*◌, ◌<◌, ◌≤◌, ◌⊎◌, inl, inr, Bool, true, false, cond, refl, sym, ap, arith}
use Rattle.std.proofs.Common.{true≢false, add-zero, add-suc, suc-mul}
use Rattle.std.proofs.lemmas.Bool.{eqb-false}
use Rattle.cobuchi_automata.specs.Counters.{risen, passes_last, advanced}

-- the counters along steps, each of which postpones some untils
pub record IsRun (untils : ℕ) (postponed : ℕ → ℕ → Bool) (counter : ℕ → ℕ) : Type 0 where
  pub start : counter 0 ≡ 0
  pub next : (t : ℕ) → counter (suc t) ≡ advanced untils (postponed t) (counter t)

-- from anywhere, each until is not postponed in one of the next steps: in the first one, or within so many more
abbrev pub IsFreeWithin : ℕ → ℕ → (ℕ → ℕ → Bool) → Type 0
IsFreeWithin untils wait postponed =
    (t u : ℕ) → u < untils → (n : ℕ) × (n ≤ wait) × (postponed (t + n) u ≡ false)

-- in how many of the first steps a test holds
abbrev pub count_of : (ℕ → Bool) → ℕ → ℕ
count_of test zero = 0
count_of test (suc n) = count_of test n + cond (test n) 1 0

-- a counter rises, and no further than the room
pub rises : (p : ℕ → Bool) (room c : ℕ) → (c ≤ risen p room c) × (risen p room c ≤ c + room)
rises p zero c = (omega arith, omega arith)
rises p (suc room) c = by (p c) (rises p room (suc c))
  where
    by : (b : Bool) → (suc c ≤ risen p room (suc c)) × (risen p room (suc c) ≤ suc c + room) →
        (c ≤ cond b c (risen p room (suc c))) × (cond b c (risen p room (suc c)) ≤ c + suc room)
    by true r = (omega arith, omega arith)
    by false r = (omega arith, omega arith)

-- it rises past an until that is not postponed
pub rises_on : (p : ℕ → Bool) (untils c : ℕ) → c < untils → p c ≡ false → risen p (untils - (c + 1)) (c + 1) ≡ risen p (untils - c) c
rises_on p untils c below free =
    let room : untils - c ≡ suc (untils - (c + 1)) = omega arith in
    let next : c + 1 ≡ suc c = omega arith in
    ap (risen p (untils - (c + 1))) next
    ∙ sym (ap (λ r. risen p r c) room ∙ ap (λ b. cond b c (risen p (untils - (c + 1)) (suc c))) free)

-- with room it rises by one or more where its until is not postponed, and else it stays
moves : (p : ℕ → Bool) (room c : ℕ) → 0 < room → ((p c ≡ true) × (risen p room c ≡ c)) ⊎ ((p c ≡ false) × (c < risen p room c))
moves p zero c h = absurd (omega arith)
moves p (suc room) c h = by (p c) refl
  where
    by : (b : Bool) → p c ≡ b → ((p c ≡ true) × (cond (p c) c (risen p room (suc c)) ≡ c))
        ⊎ ((p c ≡ false) × (c < cond (p c) c (risen p room (suc c))))
    by true e = inl (e, rw e refl)
    by false e = let up = (rises p room (suc c)).0 in inr (e, rw e (omega arith))

-- a step passes the last until, or leaves the counter at an until that is postponed, or raises it
abbrev Step : ℕ → (ℕ → ℕ → Bool) → (ℕ → ℕ) → ℕ → Type 0
Step untils postponed counter t =
    (passes_last untils (postponed t) (counter t) ≡ true)
    ⊎ ((counter t < untils) × (postponed t (counter t) ≡ true) × (counter (suc t) ≡ counter t))
    ⊎ ((counter t < counter (suc t)) × (counter (suc t) ≤ untils))

module _ (untils wait : ℕ) (postponed : ℕ → ℕ → Bool) (counter : ℕ → ℕ) (run : IsRun untils postponed counter)
    (free : IsFreeWithin untils wait postponed) where
  abbrev reached : ℕ → ℕ
  reached t = risen (postponed t) (untils - counter t) (counter t)

  step : (t : ℕ) → counter t ≤ untils → Step untils postponed counter t
  step t below = by (passes_last untils (postponed t) (counter t)) refl
    where
      by : (b : Bool) → passes_last untils (postponed t) (counter t) ≡ b → Step untils postponed counter t
      by true e = inl e
      by false e =
          let new : counter (suc t) ≡ reached t = run.next t ∙ ap (λ b. cond b 0 (reached t)) e in
          let range = rises (postponed t) (untils - counter t) (counter t) in
          let short : reached t ≡ untils → ⊥ = eqb-false (reached t) untils e in
          let room : 0 < untils - counter t = omega arith in
          on new range room (moves (postponed t) (untils - counter t) (counter t) room)
        where
          on : counter (suc t) ≡ reached t → (counter t ≤ reached t) × (reached t ≤ counter t + (untils - counter t)) →
              0 < untils - counter t
              → ((postponed t (counter t) ≡ true) × (reached t ≡ counter t))
              ⊎ ((postponed t (counter t) ≡ false) × (counter t < reached t)) → Step untils postponed counter t
          on new range room (inl h) = inr (inl (omega arith, h.0, new ∙ h.1))
          on new range room (inr h) = inr (inr (omega (arith, h.1), omega arith))

  -- a counter is no more than the number of untils
  within : (t : ℕ) → counter t ≤ untils
  within zero = omega (arith, run.start)
  within (suc t) = after (within t) (step t (within t))
    where
      after : counter t ≤ untils → Step untils postponed counter t → counter (suc t) ≤ untils
      after below (inl e) = let new : counter (suc t) ≡ 0 = run.next t ∙ ap (λ b. cond b 0 (reached t)) e in omega arith
      after below (inr (inl h)) = omega (arith, h.2)
      after below (inr (inr h)) = h.1

  -- up to a step that does not postpone the counter's until, the last until is passed, or else the counter has risen past it
  abbrev Gets : ℕ → ℕ → Type 0
  Gets t s =
      ((r : ℕ) × (t ≤ r) × (r ≤ s) × (passes_last untils (postponed r) (counter r) ≡ true))
      ⊎ ((r : ℕ) × (t < r) × (r ≤ suc s) × (counter t < counter r))

  sooner : (t s : ℕ) → counter (suc t) ≡ counter t → Gets (suc t) s → Gets t s
  sooner t s same (inl (r, a, b, c)) = inl (r, omega arith, b, c)
  sooner t s same (inr (r, a, b, c)) = inr (r, omega arith, b, omega arith)

  gets : (n t s : ℕ) → s ≡ t + n → postponed s (counter t) ≡ false → Gets t s
  gets zero t s at h = by (step t (within t))
    where
      by : Step untils postponed counter t → Gets t s
      by (inl e) = inl (t, omega arith, omega arith, e)
      by (inr (inl k)) = let same : s ≡ t = omega arith in absurd (true≢false (sym k.1 ∙ (λ i. postponed (sym same i) (counter t)) ∙ h))
      by (inr (inr k)) = inr (suc t, omega arith, omega arith, k.0)
  gets (suc n) t s at h = by (gets n (suc t) s) (step t (within t))
    where
      by : (s ≡ suc t + n → postponed s (counter (suc t)) ≡ false → Gets (suc t) s) → Step untils postponed counter t → Gets t s
      by later (inl e) = inl (t, omega arith, omega arith, e)
      by later (inr (inl k)) = sooner t s k.2 (later (omega arith) (ap (postponed s) k.2 ∙ h))
      by later (inr (inr k)) = inr (suc t, omega arith, omega arith, k.0)

  abbrev bound : ℕ → ℕ
  bound zero = suc wait
  bound (suc d) = suc wait + bound d

  bound_is : (d : ℕ) → bound d ≡ (d + 1) * (wait + 1)
  bound_is zero = omega arith
  bound_is (suc d) =
      let e = bound_is d in
      let n : suc d + 1 ≡ suc (d + 1) = omega arith in
      rw (n, suc-mul (d + 1) (wait + 1)) (omega (arith, e))

  -- with so many untils left the counter passes the last one
  abbrev Passing : ℕ → ℕ → Type 0
  Passing t m = (s : ℕ) × (t ≤ s) × (s < t + m) × (passes_last untils (postponed s) (counter s) ≡ true)

  goes : (d t : ℕ) → untils ≤ counter t + d → Passing t (bound d)
  goes zero t h = by (step t (within t))
    where
      by : Step untils postponed counter t → Passing t (suc wait)
      by (inl e) = (t, omega arith, omega arith, e)
      by (inr (inl k)) = absurd (omega (arith, k.0))
      by (inr (inr k)) = absurd (omega (arith, k.0, k.1))
  goes (suc d) t h = by (λ r. goes d r) (step t (within t))
    where
      onward : ((r : ℕ) → untils ≤ counter r + d → Passing r (bound d)) → (n : ℕ) → n ≤ wait → Gets t (t + n) →
          Passing t (suc wait + bound d)
      onward rest n few (inl (r, a, b, c)) = (r, a, omega arith, c)
      onward rest n few (inr (r, a, b, c)) = let later = rest r (omega arith) in
          (later.0, omega (arith, later.1), omega (arith, later.2), later.3)

      from : ((r : ℕ) → untils ≤ counter r + d → Passing r (bound d)) → counter t < untils → Passing t (suc wait + bound d)
      from rest below = let at = free t (counter t) below in onward rest at.0 at.1 (gets at.0 t (t + at.0) refl at.2)

      by : ((r : ℕ) → untils ≤ counter r + d → Passing r (bound d)) → Step untils postponed counter t → Passing t (suc wait + bound d)
      by rest (inl e) = (t, omega arith, omega arith, e)
      by rest (inr (inl k)) = from rest k.0
      by rest (inr (inr k)) = from rest (omega (arith, k.0, k.1))

  pub once : (t : ℕ) → Passing t ((untils + 1) * (wait + 1))
  once t = rw (← bound_is untils) (goes untils t (omega arith))

-- counts do not fall
count_more : (test : ℕ → Bool) (t n : ℕ) → count_of test t ≤ count_of test (t + n)
count_more test t zero = rw add-zero (omega arith)
count_more test t (suc n) = let e = count_more test t n in rw add-suc (omega (arith, e))

count_le : (test : ℕ → Bool) (m n : ℕ) → m ≤ n → count_of test m ≤ count_of test n
count_le test m n h =
    let e = count_more test m (n - m) in let same : m + (n - m) ≡ n = omega arith in rw same at e

count_passed : (test : ℕ → Bool) (t s n : ℕ) → t ≤ s → s < n → test s ≡ true → count_of test t + 1 ≤ count_of test n
count_passed test t s n a b h =
    let before = count_le test t s a in
    let after = count_le test (suc s) n b in
    let here : count_of test (suc s) ≡ count_of test s + 1 = ap (λ b. count_of test s + cond b 1 0) h in
    omega (arith, before, after, here)

pub counted : (test : ℕ → Bool) (m : ℕ) → ((t : ℕ) → (s : ℕ) × (t ≤ s) × (s < t + m) × (test s ≡ true)) → (k : ℕ) →
    k ≤ count_of test (k * m)
counted test m at zero = omega arith
counted test m at (suc k) =
    let so_far = counted test m at k in
    let next = at (k * m) in
    let one = count_passed test (k * m) next.0 (k * m + m) next.1 next.2 next.3 in
    rw suc-mul (omega (arith, so_far, one))
