-- The map of names against the list of names that it stands for.
use Rattle.std.proofs.Common.{
  ◌≡◌,
  ℕ,
  zero,
  suc,
  ◌+◌,
  ◌<◌,
  ◌≤◌,
  Bool,
  true,
  false,
  not,
  cond,
  List,
  [],
  ◌∷◌,
  ◌++◌,
  length,
  map,
  take,
  slice_get,
  position,
  nat_lt,
  Option,
  Some,
  None,
  Vec,
  IsSomeAnd,
  refl,
  sym,
  ap,
  ◌∙◌,
  true≢false,
  arith,
  nat_eq,
}
use Rattle.std.specs.List.{position_or_len, IsDistinct, AllByRecursion}
use Rattle.std.specs.Str.{bytes_eq}
use Rattle.std.specs.Cmp.Lexicographic.{pointwise}
use Rattle.std.specs.Map.{keys_of}
use Rattle.std.specs.declared.alloc.Global.{Global}
use Rattle.std.proofs.lemmas.List.{map_push}
use Rattle.std.proofs.lemmas.Option.{none-some, same_Some}
use Rattle.std.proofs.lemmas.Bool.{ltb-false, le-ltb}
use Rattle.indexmap.specs.IndexMap.{insert_entry}
use Rattle.base_library.proofs.Bytes.{same_bytes, bytes_same}
use Rattle.tsl_terms.specs.declared.names.NameKind.{NameKind}
use Rattle.tsl_terms.specs.declared.names.Meaning.{Meaning}
use Rattle.tsl_terms.specs.Name.{Name, texts, number_of, AreDistinct}
use Rattle.tsl_terms.specs.internal.Named.{named}

abbrev Key : Type 0
Key = Vec ℕ Global

abbrev pub same_key : Key → Key → Bool
same_key a b = pointwise nat_eq a.items b.items

-- where a text stands in the map is where it stands in the list
place_of : (text : List ℕ) (es : List (Key × Meaning)) →
    position_or_len (bytes_eq text) (texts (map named es)) ≡ position_or_len (λ k. pointwise nat_eq text k.items) (keys_of es)
place_of text [] = refl
place_of text (e ∷ es) = ap (λ n. cond (not (pointwise nat_eq text e.0.items)) (1 + n) 0) (place_of text es)

length_of : (es : List (Key × Meaning)) → length (texts (map named es)) ≡ length (keys_of es)
length_of [] = refl
length_of (e ∷ es) = ap suc (length_of es)

pub number-named : (text : List ℕ) (es : List (Key × Meaning)) →
    position (λ k. pointwise nat_eq text k.items) (keys_of es) ≡ number_of (map named es) text
number-named text es = rw (place_of text es, length_of es)

-- a text that has no number stands nowhere
abbrev pub NotAmong : List ℕ → List (Key × Meaning) → Type 0
NotAmong text es = AllByRecursion (λ k. pointwise nat_eq text k.items ≡ false) (keys_of es)

not_among : (text : List ℕ) (es : List (Key × Meaning)) →
    length (keys_of es) ≤ position_or_len (λ k. pointwise nat_eq text k.items) (keys_of es) → NotAmong text es
not_among text [] h = tt
not_among text (e ∷ es) h = by (not_among text es) (pointwise nat_eq text e.0.items) refl
  where
    by : (length (keys_of es) ≤ position_or_len (λ k. pointwise nat_eq text k.items) (keys_of es) → NotAmong text es) → (b : Bool) →
        pointwise nat_eq text e.0.items ≡ b → NotAmong text (e ∷ es)
    by rest false p = let h' = rw p at h in (p, rest (omega arith))
    by rest true p = let h' = rw p at h in absurd (omega arith)

absent_from : (text : List ℕ) (es : List (Key × Meaning)) → position (λ k. pointwise nat_eq text k.items) (keys_of es) ≡ None →
    NotAmong text es
absent_from text es h =
    not_among text es (past (position_or_len (λ k. pointwise nat_eq text k.items) (keys_of es)) (length (keys_of es)) h)
  where
    past : (i n : ℕ) → cond (nat_lt i n) (Some i) None ≡ None → n ≤ i
    past i n h = by (nat_lt i n) refl
      where
        by : (b : Bool) → nat_lt i n ≡ b → n ≤ i
        by false p = ltb-false i n p
        by true p = absurd (none-some i (sym (rw p at h)))

-- a name that was not there goes last
last-entry : (key : Key) (meaning : Meaning) (es : List (Key × Meaning)) → NotAmong key.items es →
    insert_entry same_key es key meaning ≡ es ++ (key, meaning) ∷ []
last-entry key meaning [] h = refl
last-entry key meaning (e ∷ es) h = rw h.0 (ap (λ rest. e ∷ rest) (last-entry key meaning es h.1))

insert-named : (key : Key) (meaning : Meaning) (es : List (Key × Meaning)) → number_of (map named es) key.items ≡ None →
    map named (insert_entry same_key es key meaning) ≡ map named es ++ named (key, meaning) ∷ []
insert-named key meaning es h =
    ap (map named) (last-entry key meaning es (absent_from key.items es (number-named key.items es ∙ h))) ∙ map_push named es (key, meaning)

-- a text that was no name's goes last, with its meaning
pub name-added : (key : Key) (meaning : Meaning) (es : List (Key × Meaning)) (names : List Name) (text : List ℕ)
    → map named es ≡ names → key.items ≡ text → number_of names text ≡ None
    → map named (insert_entry same_key es key meaning) ≡ names ++ (record { text = text; kind = meaning.kind; arity = meaning.arity }) ∷ []
name-added key meaning es names text is same none =
    insert-named key meaning es (rw (is, same) none)
    ∙ (λ i. is i ++ (record { text = same i; kind = meaning.kind; arity = meaning.arity }) ∷ [])

-- no two keys are equal, so no two names have one text
differs : (text : List ℕ) (es : List (Key × Meaning)) (j : ℕ) (n : Name) → NotAmong text es → slice_get (map named es) j ≡ Some n →
    text ≡ n.text → ⊥
differs text [] j n h at same = none-some n at
differs text (e ∷ es) zero n h at same =
    true≢false (sym (bytes_same text e.0.items (same ∙ sym (ap (λ m. m.text) (same_Some (named e) n at)))) ∙ h.0)
differs text (e ∷ es) (suc j) n h at same = differs text es j n h.1 at same

pub AreDistinct-named : (es : List (Key × Meaning)) → IsDistinct same_key (keys_of es) → AreDistinct (map named es)
unfolding IsDistinct
AreDistinct-named [] h i j m n at_i at_j same = absurd (none-some m at_i)
AreDistinct-named (e ∷ es) h zero zero m n at_i at_j same = refl
AreDistinct-named (e ∷ es) h zero (suc j) m n at_i at_j same =
    absurd (differs e.0.items es j n h.0 at_j (ap (λ k. k.text) (same_Some (named e) m at_i) ∙ same))
AreDistinct-named (e ∷ es) h (suc i) zero m n at_i at_j same =
    absurd (differs e.0.items es i m h.0 at_i (ap (λ k. k.text) (same_Some (named e) n at_j) ∙ sym same))
AreDistinct-named (e ∷ es) h (suc i) (suc j) m n at_i at_j same =
    ap suc (AreDistinct-named es h.1 i j m n at_i at_j same)

-- a text that no name has has no number
unnumbered : (text : List ℕ) (names : List Name) → ((k : ℕ) (m : Name) → slice_get names k ≡ Some m → text ≡ m.text → ⊥) →
    length (texts names) ≤ position_or_len (bytes_eq text) (texts names)
unnumbered text [] h = omega arith
unnumbered text (n ∷ names) h =
    let rest = unnumbered text names (λ k. h (suc k)) in by rest (bytes_eq text n.text) refl
  where
    by : length (texts names) ≤ position_or_len (bytes_eq text) (texts names) → (b : Bool) → bytes_eq text n.text ≡ b →
        length (texts (n ∷ names)) ≤ position_or_len (bytes_eq text) (texts (n ∷ names))
    by rest false p = rw p (omega arith)
    by rest true p = absurd (h 0 n refl (same_bytes text n.text p))

no_number : (text : List ℕ) (names : List Name) → ((k : ℕ) (m : Name) → slice_get names k ≡ Some m → text ≡ m.text → ⊥) →
    number_of names text ≡ None
no_number text names h = rw (le-ltb _ _ (unnumbered text names h))

-- what stands at a place of a front stands there in the whole list
in_front : (names : List Name) (i k : ℕ) (m : Name) → slice_get (take i names) k ≡ Some m → (k < i) × (slice_get names k ≡ Some m)
in_front [] zero k m at = absurd (none-some m at)
in_front [] (suc i) k m at = absurd (none-some m at)
in_front (n ∷ names) zero k m at = absurd (none-some m at)
in_front (n ∷ names) (suc i) zero m at = (omega arith, at)
in_front (n ∷ names) (suc i) (suc k) m at = let rest = in_front names i k m at in (omega arith, rest.1)

-- the text at a place does not stand before it
pub absent_before : (names : List Name) (i : ℕ) (text : List ℕ) → AreDistinct names →
    IsSomeAnd (slice_get names i) (λ name. text ≡ name.text) → number_of (take i names) text ≡ None
absent_before names i text distinct here = by (slice_get names i) refl
  where
    by : (found : Option Name) → slice_get names i ≡ found → number_of (take i names) text ≡ None
    by None at = absurd (rw at at here)
    by (Some n) at =
        let same : text ≡ n.text = rw at at here in
        no_number text (take i names) (λ k m at_k same_k.
        let before = in_front names i k m at_k in
        let e : k ≡ i = distinct k i m n before.1 at (sym same_k ∙ same) in
        omega (arith, before.0, e))

-- the name at a place is the one that has its three parts
pub next_name : (names : List Name) (i : ℕ) (text : List ℕ) (kind : NameKind) (arity : ℕ)
    → IsSomeAnd (slice_get names i) (λ name. text ≡ name.text)
    → IsSomeAnd (slice_get names i) (λ name. kind ≡ name.kind)
    → IsSomeAnd (slice_get names i) (λ name. arity ≡ name.arity)
    → take i names ++ (record { text = text; kind = kind; arity = arity }) ∷ [] ≡ take (suc i) names
next_name [] i text kind arity a b c = absurd a
next_name (n ∷ names) zero text kind arity a b c = λ j. (record { text = a j; kind = b j; arity = c j }) ∷ []
next_name (n ∷ names) (suc i) text kind arity a b c =
    ap (λ rest. n ∷ rest) (next_name names i text kind arity a b c)
