-- What is written in a format is read back, and nothing else is read.
use Rattle.std.proofs.Common.{◌≡◌, ℕ, zero, suc, ◌+◌, ◌<◌, ◌≤◌, Bool, true, false, not, ◌&&◌, ◌||◌, eqb, leb, ltb, List, [], ◌∷◌, ◌++◌}
use Rattle.std.proofs.Common.{length, length-append, flat_map, Option, Some, None, refl, sym, ap, subst, ◌∙◌, append_assoc, append-nil}
use Rattle.std.proofs.Common.{arith, inl, inr, ◌⊎◌}
use Rattle.std.specs.Prelude.{option_and_then, option_map, if◌then◌else◌}
use Rattle.std.specs.List.{list_all}
use Rattle.std.specs.Bool.{Decides}
use Rattle.std.proofs.lemmas.Bool.{and_parts, and_from, not-true, eqb-true, leb-true, ltb-true, eq-eqb, le-leb}
use Rattle.line_formats.specs.Format.{Bytes, one_byte, in_range, has, is_apart, are_apart, stops, begins, PartReader, Leaf, Format, nothing}
use Rattle.line_formats.specs.Format.{fixed, leaf, many, choice, Value}
use Rattle.line_formats.specs.Format.{strip, with_first, then_read, mapped, push_front, and_more, next_member, repeat, at_end, chosen}
use Rattle.tsl_text.specs.Written.{is_line}
use Rattle.tsl_text.specs.Lines.{is_line_byte}
use Rattle.base_library.proofs.Passes.{list_all_joined}
use Rattle.line_formats.specs.Format.{is_feedless, may_be_empty, starts, takes, is_clear, fits, print, read, value_of_line}

-- ---- sets

eqb_same : (n : ℕ) → eqb n n ≡ true
eqb_same n = eq-eqb n n refl

or_either : (a b : Bool) → (a || b) ≡ true → (a ≡ true) ⊎ (b ≡ true)
or_either true b h = inl refl
or_either false b h = inr h

or_left : (a b : Bool) → a ≡ true → (a || b) ≡ true
or_left true b h = refl
or_left false b h = absurd cc

or_right : (a b : Bool) → b ≡ true → (a || b) ≡ true
or_right true b h = refl
or_right false b h = h

or_none : (a b : Bool) → (a || b) ≡ false → (a ≡ false) × (b ≡ false)
or_none true b h = absurd cc
or_none false b h = (refl, h)

not_both : (b : Bool) → b ≡ true → b ≡ false → ⊥
not_both true h k = absurd cc
not_both false h k = absurd cc

no_true : (b : Bool) → (b ≡ true → ⊥) → b ≡ false
no_true true h = absurd (h refl)
no_true false h = refl

apart_ranges : (r s : ℕ × ℕ) (b : ℕ) → is_apart r s ≡ true → in_range b r ≡ true → in_range b s ≡ true → ⊥
apart_ranges r s b h p q =
    let left = and_parts (leb r.0 b) (leb b r.1) p in
    let right = and_parts (leb s.0 b) (leb b s.1) q in
    let a = leb-true r.0 b left.0 in
    let c = leb-true b r.1 left.1 in
    let d = leb-true s.0 b right.0 in
    let e = leb-true b s.1 right.1 in
    by (or_either (ltb r.1 s.0) (ltb s.1 r.0) h) a c d e
  where
    by : (ltb r.1 s.0 ≡ true) ⊎ (ltb s.1 r.0 ≡ true) → r.0 ≤ b → b ≤ r.1 → s.0 ≤ b → b ≤ s.1 → ⊥
    by (inl k) a c d e = let lt = ltb-true r.1 s.0 k in omega (arith, lt, a, c, d, e)
    by (inr k) a c d e = let lt = ltb-true s.1 r.0 k in omega (arith, lt, a, c, d, e)

apart_range : (r : ℕ × ℕ) (ss : Bytes) (b : ℕ) → list_all (is_apart r) ss ≡ true → in_range b r ≡ true → has ss b ≡ true → ⊥
apart_range r [] b h p q = absurd cc
apart_range r (s ∷ ss) b h p q =
    let parts = and_parts (is_apart r s) (list_all (is_apart r) ss) h in
    by (or_either (in_range b s) (has ss b) q) parts.0 (apart_range r ss b parts.1 p)
  where
    by : (in_range b s ≡ true) ⊎ (has ss b ≡ true) → is_apart r s ≡ true → (has ss b ≡ true → ⊥) → ⊥
    by (inl k) x rest = apart_ranges r s b x p k
    by (inr k) x rest = rest k

apart_sets : (rs ss : Bytes) (b : ℕ) → are_apart rs ss ≡ true → has rs b ≡ true → has ss b ≡ true → ⊥
apart_sets [] ss b h p q = absurd cc
apart_sets (r ∷ rs) ss b h p q =
    let parts = and_parts (list_all (is_apart r) ss) (are_apart rs ss) h in
    by (or_either (in_range b r) (has rs b) p) parts.0 (λ k. apart_sets rs ss b parts.1 k q)
  where
    by : (in_range b r ≡ true) ⊎ (has rs b ≡ true) → list_all (is_apart r) ss ≡ true → (has rs b ≡ true → ⊥) → ⊥
    by (inl k) x rest = apart_range r ss b x k q
    by (inr k) x rest = rest k

-- a byte of a set is not one that the set is apart from
pub apart_byte : (set : Bytes) (n b : ℕ) → are_apart set (one_byte n) ≡ true → has set b ≡ true → not (eqb b n) ≡ true
apart_byte set n b h k = by (eqb b n) refl where
  by : (t : Bool) → eqb b n ≡ t → not (eqb b n) ≡ true
  by false e = ap not e
  by true e =
      let same : b ≡ n = eqb-true b n e in
      let below : leb n b ≡ true = le-leb n b (omega (arith, same)) in
      let above : leb b n ≡ true = le-leb b n (omega (arith, same)) in
      absurd (apart_sets set (one_byte n) b h k (or_left (leb n b && leb b n) false (and_from (leb n b) (leb b n) below above)))

has_left : (rs ss : Bytes) (b : ℕ) → has rs b ≡ true → has (rs ++ ss) b ≡ true
has_left [] ss b h = absurd cc
has_left (r ∷ rs) ss b h = by (or_either (in_range b r) (has rs b) h) (has_left rs ss b) where
  by : (in_range b r ≡ true) ⊎ (has rs b ≡ true) → (has rs b ≡ true → has (rs ++ ss) b ≡ true) →
      (in_range b r || has (rs ++ ss) b) ≡ true
  by (inl k) rest = or_left (in_range b r) (has (rs ++ ss) b) k
  by (inr k) rest = or_right (in_range b r) (has (rs ++ ss) b) (rest k)

has_right : (rs ss : Bytes) (b : ℕ) → has ss b ≡ true → has (rs ++ ss) b ≡ true
has_right [] ss b h = h
has_right (r ∷ rs) ss b h = or_right (in_range b r) (has (rs ++ ss) b) (has_right rs ss b h)

stops_left : (rs ss : Bytes) (bytes : List ℕ) → stops (rs ++ ss) bytes ≡ true → stops rs bytes ≡ true
stops_left rs ss [] h = refl
stops_left rs ss (b ∷ bs) h =
    let none = no_true (has rs b) (λ k. not_both (has (rs ++ ss) b) (has_left rs ss b k) (not-true (has (rs ++ ss) b) h)) in
    ap not none

stops_right : (rs ss : Bytes) (bytes : List ℕ) → stops (rs ++ ss) bytes ≡ true → stops ss bytes ≡ true
stops_right rs ss [] h = refl
stops_right rs ss (b ∷ bs) h =
    let none = no_true (has ss b) (λ k. not_both (has (rs ++ ss) b) (has_right rs ss b k) (not-true (has (rs ++ ss) b) h)) in
    ap not none

stops_begins : (set : Bytes) (bytes : List ℕ) → stops set bytes ≡ true → begins set bytes ≡ false
stops_begins set [] h = refl
stops_begins set (b ∷ bs) h = not-true (has set b) h

-- ---- how a text begins: with a byte of the set, or it is empty
abbrev pub First : Bytes → Bool → List ℕ → Type 0
First set empty [] = empty ≡ true
First set empty (b ∷ bs) = has set b ≡ true

-- sets where the part before may be empty
abbrev pub after_part : Bool → Bytes → Bytes
after_part empty set = if empty then set else []

first_both : (set more : Bytes) (empty rest : Bool) (xs ys : List ℕ) → First set empty xs → First more rest ys →
    First (set ++ after_part empty more) (empty && rest) (xs ++ ys)
first_both set more empty rest (x ∷ xs) ys h k = has_left set (after_part empty more) x h
first_both set more true rest [] [] h k = k
first_both set more true rest [] (y ∷ ys) h k = has_right set more y k
first_both set more false rest [] ys h k = absurd cc

first_wider : (set more : Bytes) (empty : Bool) (xs : List ℕ) → First set empty xs → First (set ++ more) empty xs
first_wider set more empty [] h = h
first_wider set more empty (x ∷ xs) h = has_left set more x h

first_wider_right : (set more : Bytes) (empty : Bool) (xs : List ℕ) → First more empty xs → First (set ++ more) empty xs
first_wider_right set more empty [] h = h
first_wider_right set more empty (x ∷ xs) h = has_right set more x h

-- a text that is not empty
first_some : (set : Bytes) (empty : Bool) (xs ys : List ℕ) → empty ≡ false → First set empty xs → begins set (xs ++ ys) ≡ true
first_some set empty [] ys h k = absurd cc
first_some set empty (x ∷ xs) ys h k = k

first_some_only : (set : Bytes) (empty other : Bool) (xs ys : List ℕ) → empty ≡ false → First set empty xs → First set other (xs ++ ys)
first_some_only set empty other [] ys h k = absurd cc
first_some_only set empty other (x ∷ xs) ys h k = k

first_length : (set : Bytes) (empty : Bool) (xs : List ℕ) → empty ≡ false → First set empty xs → 0 < length xs
first_length set empty [] h k = absurd cc
first_length set empty (x ∷ xs) h k = omega arith

-- what is written after a part stops it
first_stops : (set bad more : Bytes) (empty : Bool) (xs rest : List ℕ) → are_apart set bad ≡ true → First set empty xs →
    stops (more ++ after_part empty bad) rest ≡ true → stops bad (xs ++ rest) ≡ true
first_stops set bad more true [] rest h k s = stops_right more bad rest s
first_stops set bad more false [] rest h k s = absurd cc
first_stops set bad more empty (x ∷ xs) rest h k s =
    ap not (no_true (has bad x) (λ q. apart_sets set bad x h k q))

-- ---- fixed bytes

pub strip_again : (w rest : List ℕ) → strip w (w ++ rest) ≡ Some rest
strip_again [] rest = refl
strip_again (w ∷ ws) rest = ap (λ b. if b then strip ws (ws ++ rest) else None) (eqb_same w) ∙ strip_again ws rest

pub strip_sound : (w bytes rest : List ℕ) → strip w bytes ≡ Some rest → bytes ≡ w ++ rest
strip_sound [] bytes rest h = cc
strip_sound (w ∷ ws) [] rest h = absurd cc
strip_sound (w ∷ ws) (b ∷ bs) rest h = by (eqb w b) refl (strip_sound ws bs rest) h where
  by : (t : Bool) → eqb w b ≡ t → (strip ws bs ≡ Some rest → bs ≡ ws ++ rest) → (if t then strip ws bs else None) ≡ Some rest →
      b ∷ bs ≡ w ∷ (ws ++ rest)
  by true e next k = (λ i. sym (eqb-true w b e) i ∷ next k i)
  by false e next k = absurd cc

pub strip_some : (w bytes rest : List ℕ) → bytes ≡ w ++ rest → strip w bytes ≡ Some rest
strip_some w bytes rest e = ap (strip w) e ∙ strip_again w rest

-- where none follows
pub strip_none : (w bytes : List ℕ) → ((rest : List ℕ) → bytes ≡ w ++ rest → ⊥) → strip w bytes ≡ None
strip_none w bytes other = by (strip w bytes) refl where
  by : (o : Option (List ℕ)) → strip w bytes ≡ o → strip w bytes ≡ None
  by None e = e
  by (Some rest) e = absurd (other rest (strip_sound w bytes rest e))

pub eqb_decides : (a b : ℕ) → Decides (eqb a b) (a ≡ b)
eqb_decides a b = (eqb-true a b, eq-eqb a b)

-- ---- readers

module _ {A B : Type 0} where
  pub and_then_some : (o : Option A) (next : A → Option B) (b : B) → option_and_then next o ≡ Some b →
      (a : A) × (o ≡ Some a) × (next a ≡ Some b)
  and_then_some None next b h = absurd cc
  and_then_some (Some a) next b h = (a, refl, h)

  then_some : (o : Option (A × List ℕ)) (next : PartReader B) (r : (A × B) × List ℕ) → then_read o next ≡ Some r →
      (rest : List ℕ) × (o ≡ Some (r.0.0, rest)) × (next rest ≡ Some (r.0.1, r.1))
  then_some None next r h = absurd cc
  then_some (Some s) next r h = by (next s.1) refl h where
    by : (o : Option (B × List ℕ)) → next s.1 ≡ o → with_first s.0 o ≡ Some r →
        (rest : List ℕ) × (Some s ≡ Some (r.0.0, rest)) × (next rest ≡ Some (r.0.1, r.1))
    by None e k = absurd cc
    by (Some t) e k =
        let same : ((s.0, t.0), t.1) ≡ r = cc in
        (s.1, ap (λ (z : (A × B) × List ℕ). Some (z.0.0, s.1)) same, e ∙ ap (λ (z : (A × B) × List ℕ). Some (z.0.1, z.1)) same)

  then_again : (o : Option (A × List ℕ)) (next : PartReader B) (a : A) (b : B) (rest last : List ℕ) → o ≡ Some (a, rest) →
      next rest ≡ Some (b, last) → then_read o next ≡ Some ((a, b), last)
  then_again o next a b rest last h k = ap (λ (z : Option (A × List ℕ)). then_read z next) h ∙ ap (with_first a) k

  mapped_some : (make : A → B) (o : Option (A × List ℕ)) (r : B × List ℕ) → mapped make o ≡ Some r →
      (a : A) × (o ≡ Some (a, r.1)) × (r.0 ≡ make a)
  mapped_some make None r h = absurd cc
  mapped_some make (Some s) r h =
      let same : (make s.0, s.1) ≡ r = cc in
      (s.0, ap (λ (z : B × List ℕ). Some (s.0, z.1)) same, ap (λ (z : B × List ℕ). z.0) (sym same))

module _ {A : Type 0} (text : A → List ℕ) (good : A → Bool) (set : Bytes) (reader : PartReader A) where
  -- a reader reads only what is written
  abbrev pub IsSound : Type 0
  IsSound = (bytes : List ℕ) (r : A × List ℕ) → reader bytes ≡ Some r → (bytes ≡ text r.0 ++ r.1) × (good r.0 ≡ true)

  repeat_sound : IsSound → (most : ℕ) (bytes : List ℕ) (r : List A × List ℕ) → repeat most set reader bytes ≡ Some r →
      (bytes ≡ flat_map text r.0 ++ r.1) × (list_all good r.0 ≡ true)
  unfolding repeat
  repeat_sound one zero bytes r h = absurd cc
  repeat_sound one (suc most) bytes r h = by (begins set bytes) (reader bytes) refl (repeat_sound one most) h where
    Rest : Type 0
    Rest = (bs : List ℕ) (q : List A × List ℕ) → repeat most set reader bs ≡ Some q →
        (bs ≡ flat_map text q.0 ++ q.1) × (list_all good q.0 ≡ true)

    ended : Some ([], bytes) ≡ Some r → (bytes ≡ flat_map text r.0 ++ r.1) × (list_all good r.0 ≡ true)
    ended k =
        let same : ([], bytes) ≡ r = cc in
        subst (λ (z : List A × List ℕ). (bytes ≡ flat_map text z.0 ++ z.1) × (list_all good z.0 ≡ true)) same (refl, refl)

    more_by : Rest → (s : A × List ℕ) → reader bytes ≡ Some s → (o : Option (List A × List ℕ)) → repeat most set reader s.1 ≡ o →
        push_front s.0 o ≡ Some r → (bytes ≡ flat_map text r.0 ++ r.1) × (list_all good r.0 ≡ true)
    more_by again' s e None f k = absurd cc
    more_by again' s e (Some t) f k =
        let same : (s.0 ∷ t.0, t.1) ≡ r = cc in
        let first = one bytes s e in
        let rest = again' s.1 t f in
        subst (λ (z : List A × List ℕ). (bytes ≡ flat_map text z.0 ++ z.1) × (list_all good z.0 ≡ true)) same (
          first.0 ∙ ap (λ zs. text s.0 ++ zs) rest.0 ∙ sym (append_assoc (text s.0) (flat_map text t.0) t.1),
          and_from (good s.0) (list_all good t.0) first.1 rest.1,
        )

    by : (b : Bool) (o : Option (A × List ℕ)) → reader bytes ≡ o → Rest → next_member b bytes o (repeat most set reader) ≡ Some r →
        (bytes ≡ flat_map text r.0 ++ r.1) × (list_all good r.0 ≡ true)
    by false o e again' k = ended k
    by true None e again' k = absurd cc
    by true (Some s) e again' k = more_by again' s e (repeat most set reader s.1) refl k

  -- more rounds than bytes are enough
  enough : ((bytes : List ℕ) (r : A × List ℕ) → reader bytes ≡ Some r → length r.1 < length bytes) → (m n : ℕ) (bytes : List ℕ) →
      length bytes < m → length bytes < n → repeat m set reader bytes ≡ repeat n set reader bytes
  unfolding repeat
  enough shrinks zero n bytes h k = absurd (omega (arith, h))
  enough shrinks (suc m) zero bytes h k = absurd (omega (arith, k))
  enough shrinks (suc m) (suc n) bytes h k =
      by (begins set bytes) (reader bytes) refl (λ rest less. enough shrinks m n rest (omega (arith, less, h)) (omega (arith, less, k)))
    where
      by : (b : Bool) (o : Option (A × List ℕ)) → reader bytes ≡ o →
          ((rest : List ℕ) → length rest < length bytes → repeat m set reader rest ≡ repeat n set reader rest) →
          next_member b bytes o (repeat m set reader) ≡ next_member b bytes o (repeat n set reader)
      by false o e more = refl
      by true None e more = refl
      by true (Some s) e more = ap (push_front s.0) (more s.1 (shrinks bytes s e))

  -- members that follow one another are read, up to what begins with none
  module _ (bad : Bytes)
      (first : (a : A) → good a ≡ true → First set false (text a))
      (again : (a : A) → good a ≡ true → (rest : List ℕ) → stops bad rest ≡ true → reader (text a ++ rest) ≡ Some (a, rest))
      (apart : are_apart set bad ≡ true) where
    member_stops : (as' : List A) → list_all good as' ≡ true → (tail : List ℕ) → stops bad tail ≡ true →
        stops bad (flat_map text as' ++ tail) ≡ true
    member_stops [] h tail s = s
    member_stops (a ∷ as') h tail s =
        let parts = and_parts (good a) (list_all good as') h in
        subst (λ zs. stops bad zs ≡ true) (sym (append_assoc (text a) (flat_map text as') tail))
        (first_stops set bad [] false (text a) (flat_map text as' ++ tail) apart (first a parts.0) (nil_stops (flat_map text as' ++ tail)))
      where
        nil_stops : (zs : List ℕ) → stops [] zs ≡ true
        nil_stops [] = refl
        nil_stops (z ∷ zs) = refl

    repeat_again : (as' : List A) → list_all good as' ≡ true → (tail : List ℕ) → begins set tail ≡ false → stops bad tail ≡ true →
        (most : ℕ) → length (flat_map text as' ++ tail) < most → repeat most set reader (flat_map text as' ++ tail) ≡ Some (as', tail)
    unfolding repeat
    repeat_again as' h tail b s zero few = absurd (omega (arith, few))
    repeat_again [] h tail b s (suc most) few = ap (λ t. next_member t tail (reader tail) (repeat most set reader)) b
    repeat_again (a ∷ as') h tail b s (suc most) few =
        let parts = and_parts (good a) (list_all good as') h in
        let more : List ℕ = flat_map text as' ++ tail in
        let split : (text a ++ flat_map text as') ++ tail ≡ text a ++ more = append_assoc (text a) (flat_map text as') tail in
        let begun : begins set (text a ++ more) ≡ true = first_some set false (text a) more refl (first a parts.0) in
        let one : reader (text a ++ more) ≡ Some (a, more) = again a parts.0 more (member_stops as' parts.1 tail s) in
        let long = first_length set false (text a) refl (first a parts.0) in
        let size : length ((text a ++ flat_map text as') ++ tail) ≡ length (text a) + length more =
        ap length split ∙ length-append (text a) more in
        let rest : repeat most set reader more ≡ Some (as', tail) =
        repeat_again as' parts.1 tail b s most (omega (arith, few, size, long)) in
        ap (repeat (suc most) set reader) split
        ∙ ap (λ t. next_member t (text a ++ more) (reader (text a ++ more)) (repeat most set reader)) begun
        ∙ ap (λ o. and_more o (repeat most set reader)) one
        ∙ ap (push_front a) rest

-- ---- formats

-- what a leaf keeps
pub record IsLeaf {V : Type 0} (l : Leaf V) : Type 0 where
  pub sound : IsSound l.print l.fits [] l.read
  pub first : (v : V) → l.fits v ≡ true → First l.starts l.empty (l.print v)
  pub again : (v : V) → l.fits v ≡ true → (rest : List ℕ) → stops l.takes rest ≡ true → l.read (l.print v ++ rest) ≡ Some (v, rest)
  pub no_feed : (v : V) → l.fits v ≡ true → is_line (l.print v) ≡ true

module _ {I : Type 0} (V : I → Type 0) (leaves : (i : I) → Leaf (V i)) (laws : (i : I) → IsLeaf (leaves i)) where
  -- only what is written is read
  pub sound : (f : Format I) (bytes : List ℕ) (r : Value V f × List ℕ) → read V leaves f bytes ≡ Some r →
      (bytes ≡ print V leaves f r.0 ++ r.1) × (fits V leaves f r.0 ≡ true)
  sound nothing bytes r h = let same : (tt {0}, bytes) ≡ r = cc in (ap (λ (z : Unit {0} × List ℕ). z.1) same, refl)
  sound (fixed w f) bytes r h =
      let parts = and_then_some (strip w bytes) (read V leaves f) r h in
      let more = sound f parts.0 r parts.2 in (
        strip_sound w bytes parts.0 parts.1 ∙ ap (λ zs. w ++ zs) more.0 ∙ sym (append_assoc w (print V leaves f r.0) r.1),
        more.1,
      )
  sound (leaf i f) bytes r h =
      let parts = then_some ((leaves i).read bytes) (read V leaves f) r h in
      let first = (laws i).sound bytes (r.0.0, parts.0) parts.1 in
      let more = sound f parts.0 (r.0.1, r.1) parts.2 in (
        first.0 ∙ ap (λ zs. (leaves i).print r.0.0 ++ zs) more.0
            ∙ sym (append_assoc ((leaves i).print r.0.0) (print V leaves f r.0.1) r.1),
        and_from ((leaves i).fits r.0.0) (fits V leaves f r.0.1) first.1 more.1,
      )
  sound (many m f) bytes r h =
      let parts = then_some (repeat (suc (length bytes)) (starts V leaves m) (read V leaves m) bytes) (read V leaves f) r h in
      let first = repeat_sound (print V leaves m) (fits V leaves m) (starts V leaves m) (read V leaves m) (sound m) (suc (length bytes))
      bytes (r.0.0, parts.0) parts.1 in
      let more = sound f parts.0 (r.0.1, r.1) parts.2 in (
        first.0 ∙ ap (λ zs. flat_map (print V leaves m) r.0.0 ++ zs) more.0
            ∙ sym (append_assoc (flat_map (print V leaves m) r.0.0) (print V leaves f r.0.1) r.1),
        and_from (list_all (fits V leaves m) r.0.0) (fits V leaves f r.0.1) first.1 more.1,
      )
  sound (choice f g) bytes r h = by (begins (starts V leaves f) bytes) (sound f bytes) (sound g bytes) h where
    by : (b : Bool) →
        ((q : Value V f × List ℕ) → read V leaves f bytes ≡ Some q → (bytes ≡ print V leaves f q.0 ++ q.1) × (fits V leaves f q.0 ≡ true)) →
        ((q : Value V g × List ℕ) → read V leaves g bytes ≡ Some q → (bytes ≡ print V leaves g q.0 ++ q.1) × (fits V leaves g q.0 ≡ true)) →
        chosen b (read V leaves f bytes) (read V leaves g bytes) ≡ Some r →
        (bytes ≡ print V leaves (choice f g) r.0 ++ r.1) × (fits V leaves (choice f g) r.0 ≡ true)
    by true one two k =
        let parts = mapped_some inl (read V leaves f bytes) r k in
        let more = one (parts.0, r.1) parts.1 in
        subst (λ (z : Value V f ⊎ Value V g). (bytes ≡ print V leaves (choice f g) z ++ r.1) × (fits V leaves (choice f g) z ≡ true))
        (sym parts.2) more
    by false one two k =
        let parts = mapped_some inr (read V leaves g bytes) r k in
        let more = two (parts.0, r.1) parts.1 in
        subst (λ (z : Value V f ⊎ Value V g). (bytes ≡ print V leaves (choice f g) z ++ r.1) × (fits V leaves (choice f g) z ≡ true))
        (sym parts.2) more

  -- how what is written begins
  pub first : (f : Format I) → is_clear V leaves f ≡ true → (v : Value V f) → fits V leaves f v ≡ true →
      First (starts V leaves f) (may_be_empty V leaves f) (print V leaves f v)
  first nothing c v h = refl
  first (fixed [] f) c v h = first f c v h
  first (fixed (b ∷ w) f) c v h =
      or_left (in_range b (b, b)) false (and_from (leb b b) (leb b b) (le-leb b b (omega arith)) (le-leb b b (omega arith)))
  first (leaf i f) c v h =
      let parts = and_parts ((leaves i).fits v.0) (fits V leaves f v.1) h in
      let clear = and_parts (is_clear V leaves f) (are_apart (starts V leaves f) (leaves i).takes) c in
      first_both (leaves i).starts (starts V leaves f) (leaves i).empty (may_be_empty V leaves f)
      ((leaves i).print v.0) (print V leaves f v.1) ((laws i).first v.0 parts.0) (first f clear.0 v.1 parts.1)
  first (many m f) c v h =
      let clear = and_parts (is_clear V leaves m && is_clear V leaves f) (not (may_be_empty V leaves m)
      && (are_apart (starts V leaves f) (starts V leaves m ++ takes V leaves m) && are_apart (starts V leaves m) (takes V leaves m))) c in
      let both = and_parts (is_clear V leaves m) (is_clear V leaves f) clear.0 in
      let some = and_parts (not (may_be_empty V leaves m))
      (are_apart (starts V leaves f) (starts V leaves m ++ takes V leaves m) && are_apart (starts V leaves m) (takes V leaves m)) clear.1 in
      let parts = and_parts (list_all (fits V leaves m) v.0) (fits V leaves f v.1) h in
      by v.0 parts.0 (first m both.0) (not-true (may_be_empty V leaves m) some.0) (first f both.1 v.1 parts.1)
    where
      by : (vs : List (Value V m)) → list_all (fits V leaves m) vs ≡ true →
          ((w : Value V m) → fits V leaves m w ≡ true → First (starts V leaves m) (may_be_empty V leaves m) (print V leaves m w)) →
          may_be_empty V leaves m ≡ false → First (starts V leaves f) (may_be_empty V leaves f) (print V leaves f v.1) →
          First (starts V leaves m ++ starts V leaves f) (may_be_empty V leaves f) (flat_map (print V leaves m) vs ++ print V leaves f v.1)
      by [] k one some rest =
          first_wider_right (starts V leaves m) (starts V leaves f) (may_be_empty V leaves f) (print V leaves f v.1) rest
      by (w ∷ ws) k one some rest =
          let fine = and_parts (fits V leaves m w) (list_all (fits V leaves m) ws) k in
          first_wider (starts V leaves m) (starts V leaves f) (may_be_empty V leaves f)
          ((print V leaves m w ++ flat_map (print V leaves m) ws) ++ print V leaves f v.1)
          (subst (First (starts V leaves m) (may_be_empty V leaves f))
          (sym (append_assoc (print V leaves m w) (flat_map (print V leaves m) ws) (print V leaves f v.1)))
          (first_some_only (starts V leaves m) (may_be_empty V leaves m) (may_be_empty V leaves f) (print V leaves m w)
          (flat_map (print V leaves m) ws ++ print V leaves f v.1) some (one w fine.0)))
  first (choice f g) c (inl v) h =
      let clear = and_parts (is_clear V leaves f && is_clear V leaves g) (not (may_be_empty V leaves f)
      && are_apart (starts V leaves g) (starts V leaves f)) c in
      let both = and_parts (is_clear V leaves f) (is_clear V leaves g) clear.0 in
      let some = and_parts (not (may_be_empty V leaves f)) (are_apart (starts V leaves g) (starts V leaves f)) clear.1 in
      first_wider (starts V leaves f) (starts V leaves g) (may_be_empty V leaves g) (print V leaves f v)
      (subst (First (starts V leaves f) (may_be_empty V leaves g)) (append-nil (print V leaves f v))
      (first_some_only (starts V leaves f) (may_be_empty V leaves f) (may_be_empty V leaves g) (print V leaves f v) []
      (not-true (may_be_empty V leaves f) some.0) (first f both.0 v h)))
  first (choice f g) c (inr v) h =
      let clear = and_parts (is_clear V leaves f && is_clear V leaves g) (not (may_be_empty V leaves f)
      && are_apart (starts V leaves g) (starts V leaves f)) c in
      let both = and_parts (is_clear V leaves f) (is_clear V leaves g) clear.0 in
      first_wider_right (starts V leaves f) (starts V leaves g) (may_be_empty V leaves g) (print V leaves g v) (first g both.1 v h)

  -- what is written is read back
  pub again : (f : Format I) → is_clear V leaves f ≡ true → (v : Value V f) → fits V leaves f v ≡ true → (rest : List ℕ) →
      stops (takes V leaves f) rest ≡ true → read V leaves f (print V leaves f v ++ rest) ≡ Some (v, rest)
  again nothing c v h rest s = refl
  again (fixed w f) c v h rest s =
      ap (λ zs. option_and_then (read V leaves f) (strip w zs)) (append_assoc w (print V leaves f v) rest)
      ∙ ap (option_and_then (read V leaves f)) (strip_again w (print V leaves f v ++ rest)) ∙ again f c v h rest s
  again (leaf i f) c v h rest s =
      let parts = and_parts ((leaves i).fits v.0) (fits V leaves f v.1) h in
      let clear = and_parts (is_clear V leaves f) (are_apart (starts V leaves f) (leaves i).takes) c in
      let more = print V leaves f v.1 ++ rest in
      let stop = first_stops (starts V leaves f) (leaves i).takes (takes V leaves f) (may_be_empty V leaves f) (print V leaves f v.1) rest
      clear.1 (first f clear.0 v.1 parts.1) s in
      ap (λ zs. then_read ((leaves i).read zs) (read V leaves f)) (append_assoc ((leaves i).print v.0) (print V leaves f v.1) rest)
      ∙ then_again ((leaves i).read ((leaves i).print v.0 ++ more)) (read V leaves f) v.0 v.1 more rest
      ((laws i).again v.0 parts.0 more stop)
      (again f clear.0 v.1 parts.1 rest (stops_left (takes V leaves f) (after_part (may_be_empty V leaves f) (leaves i).takes) rest s))
  again (many m f) c v h rest s =
      let M = starts V leaves m in
      let T = takes V leaves m in
      let clear = and_parts (is_clear V leaves m && is_clear V leaves f) (not (may_be_empty V leaves m)
      && (are_apart (starts V leaves f) (M ++ T) && are_apart M T)) c in
      let both = and_parts (is_clear V leaves m) (is_clear V leaves f) clear.0 in
      let some = and_parts (not (may_be_empty V leaves m)) (are_apart (starts V leaves f) (M ++ T) && are_apart M T) clear.1 in
      let aparts = and_parts (are_apart (starts V leaves f) (M ++ T)) (are_apart M T) some.1 in
      let parts = and_parts (list_all (fits V leaves m) v.0) (fits V leaves f v.1) h in
      let tail = print V leaves f v.1 ++ rest in
      let stop : stops (M ++ T) tail ≡ true = first_stops (starts V leaves f) (M ++ T) (takes V leaves f) (may_be_empty V leaves f)
      (print V leaves f v.1) rest aparts.0 (first f both.1 v.1 parts.1) s in
      let whole = flat_map (print V leaves m) v.0 ++ tail in
      let never = not-true (may_be_empty V leaves m) some.0 in
      ap (λ zs. then_read (repeat (suc (length zs)) M (read V leaves m) zs) (read V leaves f))
      (append_assoc (flat_map (print V leaves m) v.0) (print V leaves f v.1) rest)
      ∙ then_again (repeat (suc (length whole)) M (read V leaves m) whole) (read V leaves f) v.0 v.1 tail rest
      (repeat_again (print V leaves m) (fits V leaves m) M (read V leaves m) T
      (λ w k. subst (λ e. First M e (print V leaves m w)) never (first m both.0 w k))
      (λ w k. again m both.0 w k)
      aparts.1 v.0 parts.0 tail (stops_begins M tail (stops_left M T tail stop)) (stops_right M T tail stop) (suc (length whole))
      (omega arith))
      (again f both.1 v.1 parts.1 rest (stops_left (takes V leaves f) (after_part (may_be_empty V leaves f) (M ++ T)) rest s))
  again (choice f g) c (inl v) h rest s =
      let F = starts V leaves f in
      let clear = and_parts (is_clear V leaves f && is_clear V leaves g) (not (may_be_empty V leaves f)
      && are_apart (starts V leaves g) F) c in
      let both = and_parts (is_clear V leaves f) (is_clear V leaves g) clear.0 in
      let some = and_parts (not (may_be_empty V leaves f)) (are_apart (starts V leaves g) F) clear.1 in
      let bytes = print V leaves f v ++ rest in
      let begun : begins F bytes ≡ true = first_some F (may_be_empty V leaves f) (print V leaves f v) rest
      (not-true (may_be_empty V leaves f) some.0) (first f both.0 v h) in
      ap (λ b. chosen b (read V leaves f bytes) (read V leaves g bytes)) begun
      ∙ ap (mapped inl) (again f both.0 v h rest (stops_left (takes V leaves f) (takes V leaves g
      ++ after_part (may_be_empty V leaves g) F) rest s))
  again (choice f g) c (inr v) h rest s =
      let F = starts V leaves f in
      let clear = and_parts (is_clear V leaves f && is_clear V leaves g) (not (may_be_empty V leaves f)
      && are_apart (starts V leaves g) F) c in
      let both = and_parts (is_clear V leaves f) (is_clear V leaves g) clear.0 in
      let some = and_parts (not (may_be_empty V leaves f)) (are_apart (starts V leaves g) F) clear.1 in
      let bytes = print V leaves g v ++ rest in
      let later = stops_right (takes V leaves f) (takes V leaves g ++ after_part (may_be_empty V leaves g) F) rest s in
      let stop : stops F bytes ≡ true = first_stops (starts V leaves g) F (takes V leaves g) (may_be_empty V leaves g) (print V leaves g v)
      rest some.1 (first g both.1 v h) later in
      ap (λ b. chosen b (read V leaves f bytes) (read V leaves g bytes)) (stops_begins F bytes stop)
      ∙ ap (mapped inr) (again g both.1 v h rest (stops_left (takes V leaves g) (after_part (may_be_empty V leaves g) F) rest later))

  -- ---- whole lines

  end_some : {A : Type 0} (o : Option (A × List ℕ)) (a : A) → at_end o ≡ Some a → o ≡ Some (a, [])
  end_some None a h = absurd cc
  end_some (Some (b, [])) a h = let same : b ≡ a = cc in ap (λ z. Some (z, [])) same
  end_some (Some (b, c ∷ cs)) a h = absurd cc

  pub line_read : (f : Format I) → is_clear V leaves f ≡ true → (v : Value V f) → fits V leaves f v ≡ true →
      value_of_line V leaves f (print V leaves f v) ≡ Some v
  line_read f c v h =
      ap (λ zs. at_end (read V leaves f zs)) (sym (append-nil (print V leaves f v))) ∙ ap at_end (again f c v h [] refl)

  pub line_written : (f : Format I) (line : List ℕ) (v : Value V f) → value_of_line V leaves f line ≡ Some v →
      (line ≡ print V leaves f v) × (fits V leaves f v ≡ true)
  line_written f line v h =
      let parts = sound f line (v, []) (end_some (read V leaves f line) v h) in
      (parts.0 ∙ append-nil (print V leaves f v), parts.1)

  -- ---- parts that are repeated to the end of a line

  -- each part that is read is the first of them
  pub many_more : (m : Format I) → is_clear V leaves m ≡ true → may_be_empty V leaves m ≡ false → (bytes rest : List ℕ) (a : Value V m) →
      read V leaves m bytes ≡ Some (a, rest) →
      value_of_line V leaves (many m nothing) bytes ≡ option_map (λ v. (a ∷ v.0, v.1)) (value_of_line V leaves (many m nothing) rest)
  unfolding repeat
  many_more m clear some bytes rest a h =
      let S = starts V leaves m in
      let R = read V leaves m in
      let begun = begins_shorter bytes (a, rest) h in
      ap (λ t. ended (next_member t bytes (R bytes) (repeat (length bytes) S R))) begun.0
      ∙ ap (λ o. ended (and_more o (repeat (length bytes) S R))) h
      ∙ ap (λ o. ended (push_front a o))
      (enough (print V leaves m) (fits V leaves m) S R (λ bs r k. (begins_shorter bs r k).1) (length bytes) (suc (length rest)) rest
      begun.1 (omega arith))
      ∙ pushed (repeat (suc (length rest)) S R rest)
    where
      ended : Option (List (Value V m) × List ℕ) → Option (List (Value V m) × Unit {0})
      ended o = at_end (then_read o (λ bs. Some (tt {0}, bs)))

      pushed : (o : Option (List (Value V m) × List ℕ)) → ended (push_front a o) ≡ option_map (λ v. (a ∷ v.0, v.1)) (ended o)
      pushed None = refl
      pushed (Some (vs, [])) = refl
      pushed (Some (vs, b ∷ bs)) = refl

      begins_shorter : (bs : List ℕ) (r : Value V m × List ℕ) → read V leaves m bs ≡ Some r →
          (begins (starts V leaves m) bs ≡ true) × (length r.1 < length bs)
      begins_shorter bs r k =
          let is = sound m bs r k in
          let begun = first m clear r.0 is.1 in
          let S = starts V leaves m in
          let long = first_length S (may_be_empty V leaves m) (print V leaves m r.0) some begun in
          let size : length bs ≡ length (print V leaves m r.0) + length r.1 = ap length is.0 ∙ length-append (print V leaves m r.0) r.1 in (
            ap (begins S) is.0 ∙ first_some S (may_be_empty V leaves m) (print V leaves m r.0) r.1 some begun,
            omega (arith, long, size),
          )

  -- where none is read, something else stands there
  pub many_none : (m : Format I) (b : ℕ) (bs : List ℕ) → read V leaves m (b ∷ bs) ≡ None →
      value_of_line V leaves (many m nothing) (b ∷ bs) ≡ None
  unfolding repeat
  many_none m b bs h = by (has (starts V leaves m) b) where
    by : (t : Bool) → at_end (then_read (next_member t (b ∷ bs) (read V leaves m (b ∷ bs))
        (repeat (suc (length bs)) (starts V leaves m) (read V leaves m))) (λ zs. Some (tt {0}, zs))) ≡ None
    by true = ap (λ o. at_end (then_read (and_more o (repeat (suc (length bs)) (starts V leaves m) (read V leaves m)))
        (λ zs. Some (tt {0}, zs)))) h
    by false = refl

  pub many_end : (m : Format I) → value_of_line V leaves (many m nothing) [] ≡ Some ([], tt)
  unfolding repeat
  many_end m = refl

  -- no line feed is written
  pub print_is_line : (f : Format I) → is_feedless V leaves f ≡ true → (v : Value V f) → fits V leaves f v ≡ true →
      is_line (print V leaves f v) ≡ true
  print_is_line nothing c v h = refl
  print_is_line (fixed w f) c v h =
      let parts = and_parts (list_all (λ b. not (eqb b 10)) w) (is_feedless V leaves f) c in
      list_all_joined is_line_byte w (print V leaves f v) parts.0 (print_is_line f parts.1 v h)
  print_is_line (leaf i f) c v h =
      let parts = and_parts ((leaves i).fits v.0) (fits V leaves f v.1) h in
      list_all_joined is_line_byte ((leaves i).print v.0) (print V leaves f v.1) ((laws i).no_feed v.0 parts.0)
      (print_is_line f c v.1 parts.1)
  print_is_line (many m f) c v h =
      let clear = and_parts (is_feedless V leaves m) (is_feedless V leaves f) c in
      let parts = and_parts (list_all (fits V leaves m) v.0) (fits V leaves f v.1) h in
      list_all_joined is_line_byte (flat_map (print V leaves m) v.0) (print V leaves f v.1)
      (all_lines (print_is_line m clear.0) v.0 parts.0) (print_is_line f clear.1 v.1 parts.1)
    where
      all_lines : ((w : Value V m) → fits V leaves m w ≡ true → is_line (print V leaves m w) ≡ true) → (vs : List (Value V m)) →
          list_all (fits V leaves m) vs ≡ true → is_line (flat_map (print V leaves m) vs) ≡ true
      all_lines each [] k = refl
      all_lines each (w ∷ ws) k =
          let fine = and_parts (fits V leaves m w) (list_all (fits V leaves m) ws) k in
          list_all_joined is_line_byte (print V leaves m w) (flat_map (print V leaves m) ws) (each w fine.0) (all_lines each ws fine.1)
  print_is_line (choice f g) c (inl v) h = print_is_line f (and_parts (is_feedless V leaves f) (is_feedless V leaves g) c).0 v h
  print_is_line (choice f g) c (inr v) h = print_is_line g (and_parts (is_feedless V leaves f) (is_feedless V leaves g) c).1 v h

-- the end of a line is asked of what is read last
pub end_some_first : {A B : Type 0} (o : Option (B × List ℕ)) (a : A) (b : B) → at_end o ≡ Some b → at_end (with_first a o) ≡ Some (a, b)
end_some_first None a b h = absurd cc
end_some_first (Some (c, [])) a b h = let same : c ≡ b = cc in ap (λ z. Some (a, z)) same
end_some_first (Some (c, x ∷ xs)) a b h = absurd cc

pub end_none_first : {A B : Type 0} (o : Option (B × List ℕ)) (a : A) → at_end o ≡ None → at_end (with_first a o) ≡ None
end_none_first None a h = refl
end_none_first (Some (c, [])) a h = absurd cc
end_none_first (Some (c, x ∷ xs)) a h = refl
