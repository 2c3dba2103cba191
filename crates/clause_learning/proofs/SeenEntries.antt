-- Entries that are seen, and the count of those of one level.
use Rattle.std.proofs.Common.{◌≡◌, ℕ, zero, suc, ◌+◌, ◌-◌, ◌<◌, ◌≤◌, ◌^◌, Bool, true, false, not, cond, ◌&&◌, List, [], ◌∷◌, length, Option}
use Rattle.std.proofs.Common.{◌||◌, All, set, get_or, min, subst, Some, None, slice_get, sym, ap, ◌∙◌, refl, arith, eqb, inl, inr}
use mir.Val.{bool_byte}
use Rattle.std.proofs.lemmas.Bool.{false≢true, or_cases, or_left, or_right, and_parts, cases_eq, eqb-true, eq-eqb, ne_eqb}
use Rattle.std.proofs.lemmas.Option.{none-some, same_Some, slice_get_within}
use Rattle.std.proofs.lemmas.List.{length-set, get_or-set_same, get_or-set_other}
use Rattle.std.proofs.lemmas.List.Elements.{All-nil}
use Rattle.std.proofs.Math.Bool.{and-true, and-false, or-true, or-false}
use Rattle.clause_core.specs.Literals.{Lit, same, has}
use Rattle.clause_core.proofs.Sets.{same_is, same_from}
use Rattle.sat_trail.specs.declared.entries.Entry.{Entry}
use Rattle.sat_trail.specs.Entries.{place_of}
use Rattle.sat_trail.proofs.Places.{place_found}
use Rattle.sat_trail.specs.States.{TrailState, IsSound}
use Rattle.sat_trail.proofs.Soundness.{length_entries}
use Rattle.clause_learning.specs.declared.seen.Seen.{Seen}
use Rattle.clause_learning.specs.ConflictAnalysis.{is_seen, count_from, count_at, stands_at, is_of_clause, AreSeen, AreNoneSeen, IsCleared}

-- what one entry counts
abbrev pub one_at : ℕ → Bool → Entry → ℕ
one_at level m e = cond (m && eqb e.level level) 1 0

-- ---- the count

-- flags that agree from a place on
count_same : (level n : ℕ) (ms ns : ℕ → Bool) (es : List Entry) → ((j : ℕ) → n ≤ j → ns j ≡ ms j) →
    count_from n level ns es ≡ count_from n level ms es
count_same level n ms ns [] h = refl
count_same level n ms ns (e ∷ es) h = both (one_at level (ns n) e) (one_at level (ms n) e) (count_from (suc n) level ns es)
    (count_from (suc n) level ms es) (ap (λ b. one_at level b e) (h n (omega arith)))
    (count_same level (suc n) ms ns es (λ j above. h j (omega arith)))
  where
    both : (a b c d : ℕ) → a ≡ b → c ≡ d → a + c ≡ b + d
    both a b c d p q = omega arith

-- the count after the flag of one place changes
count_changed : (level n p : ℕ) (ms ns : ℕ → Bool) (es : List Entry) (k : ℕ) (e : Entry) → p ≡ n + k → slice_get es k ≡ Some e →
    ((j : ℕ) → (j ≡ p → ⊥) → ns j ≡ ms j) → count_from n level ns es + one_at level (ms p) e
    ≡ count_from n level ms es + one_at level (ns p) e
count_changed level n p ms ns [] k e is at h = absurd (none-some e at)
count_changed level n p ms ns (d ∷ es) zero e is at h =
    let here : p ≡ n = omega arith in
    let same_entry : d ≡ e = same_Some d e at in
    let a : one_at level (ns n) d ≡ one_at level (ns p) e = ap (λ (j : ℕ). one_at level (ns j) d) (sym here)
    ∙ ap (λ (z : Entry). one_at level (ns p) z) same_entry in
    let b : one_at level (ms n) d ≡ one_at level (ms p) e = ap (λ (j : ℕ). one_at level (ms j) d) (sym here)
    ∙ ap (λ (z : Entry). one_at level (ms p) z) same_entry in
    swapped (one_at level (ns n) d) (one_at level (ns p) e) (one_at level (ms n) d) (one_at level (ms p) e) (count_from (suc n) level ns es)
    (count_from (suc n) level ms es) a b (count_same level (suc n) ms ns es (λ j above. h j (λ i. omega arith)))
  where
    swapped : (x a y b c d : ℕ) → x ≡ a → y ≡ b → c ≡ d → (x + c) + b ≡ (y + d) + a
    swapped x a y b c d p q r = omega arith
count_changed level n p ms ns (d ∷ es) (suc k) e is at h =
    moved (one_at level (ns n) d) (one_at level (ms n) d) (count_from (suc n) level ns es) (one_at level (ms p) e)
    (count_from (suc n) level ms es) (one_at level (ns p) e) (ap (λ b. one_at level b d) (h n (λ i. omega arith)))
    (count_changed level (suc n) p ms ns es k e (omega arith) at h)
  where
    moved : (x y c a d b : ℕ) → x ≡ y → c + a ≡ d + b → (x + c) + a ≡ (y + d) + b
    moved x y c a d b p q = omega arith

pub count_set : (level : ℕ) (ms ns : ℕ → Bool) (es : List Entry) (k : ℕ) (e : Entry) → slice_get es k ≡ Some e →
    ((j : ℕ) → (j ≡ k → ⊥) → ns j ≡ ms j) → count_at level ns es + one_at level (ms k) e ≡ count_at level ms es + one_at level (ns k) e
count_set level ms ns es k e at h = count_changed level 0 k ms ns es k e (omega arith) at h

one_le : (b : Bool) → cond b 1 0 ≤ 1
one_le true = omega arith
one_le false = omega arith

count_le : (level n : ℕ) (ms : ℕ → Bool) (es : List Entry) → count_from n level ms es ≤ length es
count_le level n ms [] = omega arith
count_le level n ms (e ∷ es) = more (one_at level (ms n) e) (count_from (suc n) level ms es) (length es)
    (one_le (ms n && eqb e.level level)) (count_le level (suc n) ms es)
  where
    more : (x n k : ℕ) → x ≤ 1 → n ≤ k → x + n ≤ suc k
    more x n k p q = omega arith

-- a seen entry of the level
pub record HasSeen (level : ℕ) (ms : ℕ → Bool) (es : List Entry) : Type 0 where
  pub place : ℕ
  pub entry : Entry
  pub is_seen : ms place ≡ true
  pub there : slice_get es place ≡ Some entry
  pub same_level : entry.level ≡ level

some_from : (level n : ℕ) (ms : ℕ → Bool) (es : List Entry) → 0 < count_from n level ms es →
    (k : ℕ) × (e : Entry) × (p : ℕ) × (p ≡ n + k) × (ms p ≡ true) × (slice_get es k ≡ Some e) × (e.level ≡ level)
some_from level n ms [] h = absurd (omega arith)
some_from level n ms (e ∷ es) h = by_test (ms n && eqb e.level level) refl (some_from level (suc n) ms es) h
  where
    by_test : (b : Bool) → (ms n && eqb e.level level) ≡ b → (0 < count_from (suc n) level ms es →
        (k : ℕ) × (d : Entry) × (p : ℕ) × (p ≡ suc n + k) × (ms p ≡ true) × (slice_get es k ≡ Some d) × (d.level ≡ level)) →
        0 < cond b 1 0 + count_from (suc n) level ms es → (k : ℕ) × (d : Entry) × (p : ℕ) × (p ≡ n + k) × (ms p ≡ true)
        × (slice_get (e ∷ es) k ≡ Some d) × (d.level ≡ level)
    by_test true t later h = let parts = and_parts (ms n) (eqb e.level level) t in
        (0, e, n, omega arith, parts.0, refl, eqb-true e.level level parts.1)
    by_test false t later h = let r = later (omega arith) in (suc r.0, r.1, r.2, omega (arith, r.3), r.4, r.5, r.6)

pub count_some : (level : ℕ) (ms : ℕ → Bool) (es : List Entry) → 0 < count_at level ms es → HasSeen level ms es
count_some level ms es h =
    let r = some_from level 0 ms es h in
    let here : r.2 ≡ r.0 = omega (arith, r.3) in
    record { place = r.0; entry = r.1; is_seen = ap ms (sym here) ∙ r.4; there = r.5; same_level = r.6 }

pub one_same : (level : ℕ) (e : Entry) → e.level ≡ level → one_at level true e ≡ 1
one_same level e h = ap (λ (b : Bool). cond b 1 0) (eq-eqb e.level level h)

pub one_other : (level : ℕ) (m : Bool) (e : Entry) → (e.level ≡ level → ⊥) → one_at level m e ≡ 0
one_other level true e h = ap (λ (b : Bool). cond b 1 0) (ne_eqb e.level level h)
one_other level false e h = refl

has_from : (level n p : ℕ) (ms : ℕ → Bool) (es : List Entry) (k : ℕ) (e : Entry) → p ≡ n + k → ms p ≡ true → slice_get es k ≡ Some e →
    e.level ≡ level → 0 < count_from n level ms es
has_from level n p ms [] k e is m at h = absurd (none-some e at)
has_from level n p ms (d ∷ es) zero e is m at h =
    let here : p ≡ n = omega arith in
    let one : one_at level (ms n) d ≡ 1 = ap (λ (j : ℕ). one_at level (ms j) d) (sym here)
    ∙ (ap (λ b. one_at level b d) m ∙ (ap (λ (z : Entry). one_at level true z) (same_Some d e at) ∙ one_same level e h)) in
    positive (one_at level (ms n) d) (count_from (suc n) level ms es) one
  where
    positive : (x c : ℕ) → x ≡ 1 → 0 < x + c
    positive x c q = omega arith
has_from level n p ms (d ∷ es) (suc k) e is m at h = behind (one_at level (ms n) d) (count_from (suc n) level ms es)
    (has_from level (suc n) p ms es k e (omega arith) m at h)
  where
    behind : (x c : ℕ) → 0 < c → 0 < x + c
    behind x c q = omega arith

pub count_has : (level : ℕ) (ms : ℕ → Bool) (es : List Entry) (k : ℕ) (e : Entry) → ms k ≡ true → slice_get es k ≡ Some e →
    e.level ≡ level → 0 < count_at level ms es
count_has level ms es k e m at h = has_from level 0 k ms es k e (omega arith) m at h

none_from : (level n : ℕ) (ms : ℕ → Bool) (es : List Entry) → ((j : ℕ) → ms j ≡ false) → count_from n level ms es ≡ 0
none_from level n ms [] h = refl
none_from level n ms (e ∷ es) h = both (one_at level (ms n) e) (count_from (suc n) level ms es) (ap (λ b. one_at level b e) (h n))
    (none_from level (suc n) ms es h)
  where
    both : (x c : ℕ) → x ≡ 0 → c ≡ 0 → x + c ≡ 0
    both x c p q = omega arith

pub count_none : (level : ℕ) (ms : ℕ → Bool) (es : List Entry) → ((j : ℕ) → ms j ≡ false) → count_at level ms es ≡ 0
count_none level ms es h = none_from level 0 ms es h

-- ---- all but one

-- what is seen but for the entry at a place
abbrev pub without : (ℕ → Bool) → ℕ → ℕ → Bool
without ms q k = ms k && not (eqb k q)

pub without_here : (ms : ℕ → Bool) (q : ℕ) → without ms q q ≡ false
without_here ms q = ap (λ b. ms q && not b) (eq-eqb q q refl) ∙ and-false (ms q)

pub without_other : (ms : ℕ → Bool) (q k : ℕ) → (k ≡ q → ⊥) → without ms q k ≡ ms k
without_other ms q k n = ap (λ b. ms k && not b) (ne_eqb k q n) ∙ and-true (ms k)

-- an entry that stays seen is another one
pub without_from : (ms : ℕ → Bool) (q k : ℕ) → without ms q k ≡ true → (k ≡ q → ⊥) × (ms k ≡ true)
without_from ms q k h = (
  λ i. false≢true (sym (without_here ms q) ∙ (ap (without ms q) (sym i) ∙ h)),
  (and_parts (ms k) (not (eqb k q)) h).0,
)

pub count_without : (level : ℕ) (ms ns : ℕ → Bool) (es : List Entry) (q : ℕ) (e : Entry) → slice_get es q ≡ Some e → ms q ≡ true →
    ((k : ℕ) → ns k ≡ without ms q k) → count_at level ns es + one_at level true e ≡ count_at level ms es
count_without level ms ns es q e at entries_seen is =
    summed (count_at level ns es) (one_at level (ms q) e) (one_at level true e) (count_at level ms es) (one_at level (ns q) e)
    (count_set level ms ns es q e at (λ k n. is k ∙ without_other ms q k n)) (ap (λ b. one_at level b e) entries_seen)
    (ap (λ b. one_at level b e) (is q ∙ without_here ms q))
  where
    summed : (n a x m b : ℕ) → n + a ≡ m + b → a ≡ x → b ≡ 0 → n + x ≡ m
    summed n a x m b s p q = omega arith

-- ---- the entries of a clause

pub is_of_clause_has : (es : List Entry) (ls : List Lit) (l : Lit) (k : ℕ) → has ls l ≡ true → place_of es l.index ≡ Some k →
    is_of_clause es ls k ≡ true
is_of_clause_has es [] l k h at = absurd (false≢true h)
is_of_clause_has es (x ∷ xs) l k h at =
    elim (or_cases (same x l) (has xs l) h) [
      | inl t ↦ or_left (stands_at (place_of es x.index) k) (is_of_clause es xs k)
          (ap (λ (z : Lit). stands_at (place_of es z.index) k) (same_is x l t)
          ∙ (ap (λ (o : Option ℕ). stands_at o k) at ∙ eq-eqb k k refl))
      | inr t ↦ or_right (stands_at (place_of es x.index) k) (is_of_clause es xs k) (is_of_clause_has es xs l k t at)
    ]

-- where an entry of a clause comes from
pub record IsOfClause (es : List Entry) (ls : List Lit) (k : ℕ) : Type 0 where
  pub literal : Lit
  pub member : has ls literal ≡ true
  pub placed : place_of es literal.index ≡ Some k

pub stands_is : (o : Option ℕ) (k : ℕ) → stands_at o k ≡ true → o ≡ Some k
stands_is None k h = absurd (false≢true h)
stands_is (Some p) k h = ap Some (sym (eqb-true k p h))

pub is_of_clause_from : (es : List Entry) (ls : List Lit) (k : ℕ) → is_of_clause es ls k ≡ true → IsOfClause es ls k
is_of_clause_from es [] k h = absurd (false≢true h)
is_of_clause_from es (x ∷ xs) k h =
    elim (or_cases (stands_at (place_of es x.index) k) (is_of_clause es xs k) h) [
      | inl t ↦ record {
        literal = x;
        member = or_left (same x x) (has xs x) (same_from x x refl);
        placed = stands_is (place_of es x.index) k t;
      }
      | inr t ↦ (let r = is_of_clause_from es xs k t in record {
        literal = r.literal;
        member = or_right (same x r.literal) (has xs r.literal) r.member;
        placed = r.placed;
      })
    ]

-- ---- the count that is kept

pub byte_is : (b : Bool) → bool_byte b ≡ cond b 1 0
byte_is true = refl
byte_is false = refl

pub place_within : (es : List Entry) (variable index place : ℕ) → variable ≡ index + 1 → Some place ≡ place_of es (variable - 1) →
    (place_of es index ≡ Some place) × (place < length es)
place_within es variable index place is h =
    let at : place_of es index ≡ Some place = ap (place_of es) (let e : index ≡ variable - 1 = omega arith in e) ∙ sym h in
    let r = place_found 0 es index place at in
    (at, omega (arith, r.1, slice_get_within es r.0 r.2.entry r.2.there))

pub count_fits : (t : TrailState) → IsSound t → (ms : ℕ → Bool) → count_at t.level ms t.entries < 2 ^ 32
count_fits t sound ms = omega (
  arith,
  count_le t.level 0 ms t.entries,
  length_entries t.variables t.clauses t.entries sound.stand,
  sound.few_variables,
)

-- the count falls with an entry that is seen no more
counts_less : (t : TrailState) (waiting : ℕ) (ms ns : ℕ → Bool) (k : ℕ) (e : Entry) (present : Bool) (byte : ℕ) →
    waiting ≡ count_at t.level ms t.entries → ms k ≡ true → ns k ≡ false → ((j : ℕ) → (j ≡ k → ⊥) → ns j ≡ ms j) →
    slice_get t.entries k ≡ Some e → present ≡ eqb e.level t.level → byte ≡ bool_byte present →
    waiting ≡ count_at t.level ns t.entries + byte
counts_less t waiting ms ns k e present byte counted entries_seen cleared others at is read =
    let s = count_set t.level ms ns t.entries k e at others in
    let p : byte ≡ one_at t.level true e = read ∙ (byte_is present ∙ ap (λ (b : Bool). cond b 1 0) is) in
    let m : one_at t.level (ms k) e ≡ one_at t.level true e = ap (λ b. one_at t.level b e) entries_seen in
    let n : one_at t.level (ns k) e ≡ 0 = ap (λ b. one_at t.level b e) cleared in
    summed waiting (count_at t.level ms t.entries) (count_at t.level ns t.entries) (one_at t.level true e) (one_at t.level (ms k) e)
    (one_at t.level (ns k) e) byte counted s p m n
  where
    summed : (w n c x a b p : ℕ) → w ≡ n → c + a ≡ n + b → p ≡ x → a ≡ x → b ≡ 0 → w ≡ c + p
    summed w n c x a b p h s e f g = omega arith

-- the count rises with a new entry that is seen
counts_more : (t : TrailState) (waiting : ℕ) (ms ns : ℕ → Bool) (k : ℕ) (e : Entry) (present : Bool) (byte : ℕ) →
    waiting ≡ count_at t.level ms t.entries → ms k ≡ false → ns k ≡ true → ((j : ℕ) → (j ≡ k → ⊥) → ns j ≡ ms j) →
    slice_get t.entries k ≡ Some e → present ≡ eqb e.level t.level → byte ≡ bool_byte present →
    waiting + byte ≡ count_at t.level ns t.entries
counts_more t waiting ms ns k e present byte counted none_seen entries_seen others at is read =
    let s = count_set t.level ms ns t.entries k e at others in
    let p : byte ≡ one_at t.level true e = read ∙ (byte_is present ∙ ap (λ (b : Bool). cond b 1 0) is) in
    let m : one_at t.level (ms k) e ≡ 0 = ap (λ b. one_at t.level b e) none_seen in
    let n : one_at t.level (ns k) e ≡ one_at t.level true e = ap (λ b. one_at t.level b e) entries_seen in
    summed waiting (count_at t.level ms t.entries) (count_at t.level ns t.entries) (one_at t.level true e) (one_at t.level (ms k) e)
    (one_at t.level (ns k) e) byte counted s p m n
  where
    summed : (w n c x a b p : ℕ) → w ≡ n → c + a ≡ n + b → p ≡ x → a ≡ 0 → b ≡ x → w + p ≡ c
    summed w n c x a b p h s e f g = omega arith

-- the flag of one entry changes, and no other one
flag_here : (flags : List Bool) (k : ℕ) (b : Bool) → k < length flags → get_or (set flags k b) k false ≡ b
flag_here flags k b within = get_or-set_same flags k b false within

flag_other : (flags : List Bool) (k : ℕ) (b : Bool) (j : ℕ) → (j ≡ k → ⊥) → get_or (set flags k b) j false ≡ get_or flags j false
flag_other flags k b j other = get_or-set_other flags k j b false other

module _ (t : TrailState) (m n : Seen) (k : ℕ) (e : Entry) (present : Bool) (byte : ℕ) (seen : AreSeen t m) (room : k < t.variables)
    (at : slice_get t.entries k ≡ Some e) (is : present ≡ eqb e.level t.level) (read : byte ≡ bool_byte present) where
  -- an entry is seen no more
  module _ (entries_seen : is_seen m k ≡ true) (flags : n.flags.items ≡ set m.flags.items k false) where
    cleared_here : is_seen n k ≡ false
    cleared_here = ap (λ (fs : List Bool). get_or fs k false) flags ∙ flag_here m.flags.items k false (omega (arith, seen.one_each))

    cleared_other : (j : ℕ) → (j ≡ k → ⊥) → is_seen n j ≡ is_seen m j
    cleared_other j other = ap (λ (fs : List Bool). get_or fs j false) flags ∙ flag_other m.flags.items k false j other

    pub clears_count : m.waiting ≡ count_at t.level (is_seen n) t.entries + byte
    clears_count = counts_less t m.waiting (is_seen m) (is_seen n) k e present byte seen.counted entries_seen cleared_here cleared_other at is
        read

    clears_flags : (j : ℕ) → is_seen n j ≡ (is_seen m j && not (eqb j k))
    clears_flags j = elim (cases_eq j k) [
      | inl here ↦ ap (is_seen n) here ∙ (cleared_here ∙ sym (ap (λ b. is_seen m j && not b) (eq-eqb j k here) ∙ and-false (is_seen m j)))
      | inr other ↦ cleared_other j other ∙ sym (ap (λ b. is_seen m j && not b) (ne_eqb j k other) ∙ and-true (is_seen m j))
    ]

    pub clears : n.lowest ≡ m.lowest → n.looked.items ≡ m.looked.items → n.waiting ≡ m.waiting - byte → IsCleared t k m n
    clears lowest looked waiting = record {
      cleared = clears_flags;
      seen = record {
        one_each = ap length flags ∙ (length-set m.flags.items k false ∙ seen.one_each);
        within = λ j h. seen.within j (before j h);
        above = λ j h. omega (arith, lowest, seen.above j (before j h));
        counted = omega (arith, waiting, clears_count);
        looked = subst (All (λ variable. variable < t.variables)) (sym looked) seen.looked;
      };
    }
      where
        before : (j : ℕ) → is_seen n j ≡ true → is_seen m j ≡ true
        before j h = (and_parts (is_seen m j) (not (eqb j k)) (sym (clears_flags j) ∙ h)).0

  -- an entry is seen
  module _ (none_seen : is_seen m k ≡ false) (flags : n.flags.items ≡ set m.flags.items k true) where
    added_here : is_seen n k ≡ true
    added_here = ap (λ (fs : List Bool). get_or fs k false) flags ∙ flag_here m.flags.items k true (omega (arith, seen.one_each))

    added_other : (j : ℕ) → (j ≡ k → ⊥) → is_seen n j ≡ is_seen m j
    added_other j other = ap (λ (fs : List Bool). get_or fs j false) flags ∙ flag_other m.flags.items k true j other

    pub adds_count : m.waiting + byte ≡ count_at t.level (is_seen n) t.entries
    adds_count = counts_more t m.waiting (is_seen m) (is_seen n) k e present byte seen.counted none_seen added_here added_other at is
        read

    pub adds_flags : (j : ℕ) → is_seen n j ≡ (is_seen m j || eqb j k)
    adds_flags j = elim (cases_eq j k) [
      | inl here ↦ ap (is_seen n) here ∙ (added_here ∙ sym (ap (λ b. is_seen m j || b) (eq-eqb j k here) ∙ or-true (is_seen m j)))
      | inr other ↦ added_other j other ∙ sym (ap (λ b. is_seen m j || b) (ne_eqb j k other) ∙ or-false (is_seen m j))
    ]

    pub adds : n.lowest ≡ min m.lowest k → All (λ variable. variable < t.variables) n.looked.items → n.waiting ≡ m.waiting + byte → AreSeen t n
    adds lowest looked waiting = record {
      one_each = ap length flags ∙ (length-set m.flags.items k true ∙ seen.one_each);
      within = λ j h. elim (cases_eq j k) [
        | inl here ↦ omega (arith, slice_get_within t.entries k e at)
        | inr other ↦ seen.within j (sym (added_other j other) ∙ h)
      ];
      above = λ j h. elim (cases_eq j k) [
        | inl here ↦ omega (arith, lowest)
        | inr other ↦ omega (arith, lowest, seen.above j (sym (added_other j other) ∙ h))
      ];
      counted = waiting ∙ adds_count;
      looked = looked;
    }

-- the beginning: no entry is seen
pub seen_begins : (t : TrailState) (m n : Seen) → AreNoneSeen t.variables m → n.flags.items ≡ m.flags.items → n.waiting ≡ 0 → n.looked.items ≡ [] →
    AreSeen t n
seen_begins t m n rest flags waiting looked = record {
  one_each = ap length flags ∙ rest.one_each;
  within = λ j h. absurd (false≢true (sym (none j) ∙ h));
  above = λ j h. absurd (false≢true (sym (none j) ∙ h));
  counted = waiting ∙ sym (count_none t.level (is_seen n) t.entries none);
  looked = subst (All (λ variable. variable < t.variables)) (sym looked) (All-nil (λ variable. variable < t.variables));
}
  where
    none : (j : ℕ) → is_seen n j ≡ false
    none j = ap (λ (fs : List Bool). get_or fs j false) flags ∙ rest.none j

-- where the entry of a clause's literal was seen before
pub seen_already : (es : List Entry) (m : Seen) (index k : ℕ) → place_of es index ≡ Some k → is_seen m k ≡ true → (j : ℕ) →
    is_seen m j ≡ (is_seen m j || stands_at (place_of es index) j)
seen_already es m index k at entries_seen j = elim (cases_eq j k) [
  | inl here ↦ ap (is_seen m) here ∙ (entries_seen ∙ sym (ap (λ b. b || stands_at (place_of es index) j) (ap (is_seen m) here ∙ entries_seen)))
  | inr other ↦ sym (ap (λ (o : Option ℕ). is_seen m j || stands_at o j) at
      ∙ (ap (λ b. is_seen m j || b) (ne_eqb j k other) ∙ or-false (is_seen m j)))
]
