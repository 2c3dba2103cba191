-- Tables with a slot for each number, filled one by one.
use Rattle.std.proofs.Common.{◌≡◌, ◌∙◌, ℕ, ◌+◌, ◌<◌, ◌==◌, Bool, true, false, ◌||◌, List, [], ◌∷◌, ◌++◌, length, take, get_or}
use Rattle.std.proofs.Common.{set, replicate, Option, Some, None, refl, sym, ap, inl, inr, arith}
use Rattle.std.specs.Prelude.{slice_get, ◌⊎◌}
use Rattle.std.proofs.lemmas.Bool.{eqb-true, eq-eqb}
use Rattle.std.proofs.lemmas.List.{take_more, length-replicate, length-set}
use Rattle.std.proofs.lemmas.Option.{none-some, same_Some, slice_get-get_or}
use Rattle.std.proofs.Math.Bool.{or-false, or-true}
use Rattle.std.proofs.lemmas.List.{length-take-le}
use Rattle.base_library.proofs.Numbers.{among_push}
use Rattle.base_library.proofs.Places.{slice_get-replicate}
use Rattle.base_library.specs.Numbers.{is_among}
use Rattle.base_library.proofs.Booleans.{eqb_self}
use Rattle.base_library.proofs.Numbers.{among_at}
use Rattle.base_library.proofs.Places.{slice_get_grown, slice_get_push, slice_get-take, slice_get_taken, slice_get_set, slice_get_set_same, slice_get-behind}
use Rattle.entry_names.specs.Needed.{IsFirstRepeat, HasNoRepeat}
use Rattle.entry_names.specs.Places.{AreMarksOf, IsPlace, ArePlaces}

-- two numbers are the same or not
data Same (m n : ℕ) : Type 0 where
  equal : m ≡ n → Same m n
  other : (m ≡ n → ⊥) → (m == n) ≡ false → Same m n

same : (m n : ℕ) → Same m n
same m n = by (m == n) refl where
  by : (b : Bool) → (m == n) ≡ b → Same m n
  by true e = equal (eqb-true m n e)
  by false e = other (λ h. let yes : (m == n) ≡ true = eq-eqb m n h in cc) e

-- ---- marks

pub no_marks : (count : ℕ) → AreMarksOf count [] (replicate count false)
no_marks count = record { many = length-replicate count false; each = λ n within. slice_get-replicate count n false within }

pub mark_more : (count : ℕ) (ns : List ℕ) (i d : ℕ) (marks : List Bool) → i < length ns → get_or ns i d < count →
    AreMarksOf count (take i ns) marks → AreMarksOf count (take (i + 1) ns) (set marks (get_or ns i d) true)
mark_more count ns i d marks within below h = rw (take_more ns i d within) (record {
  many = length-set marks (get_or ns i d) true ∙ h.many;
  each = λ n inside. by n inside (same (get_or ns i d) n);
}) where
  by : (n : ℕ) → n < count → Same (get_or ns i d) n →
      slice_get (set marks (get_or ns i d) true) n ≡ Some (is_among (take i ns ++ get_or ns i d ∷ []) n)
  by n inside (equal e) =
      rw (among_push (take i ns) (get_or ns i d) n, e, eqb_self n, or-true (is_among (take i ns) n))
      (slice_get_set_same marks n true (omega (arith, inside, h.many)))
  by n inside (other not e) =
      slice_get_set marks (get_or ns i d) n true (λ k. not (sym k)) ∙ h.each n inside
      ∙ ap (λ b. Some b) (sym (among_push (take i ns) (get_or ns i d) n ∙ ap (λ b. is_among (take i ns) n || b) e
      ∙ or-false (is_among (take i ns) n)))

-- ---- places

-- what is known after some numbers
pub record PlacedSoFar (count : ℕ) (ns : List ℕ) (places : List (Option ℕ)) : Type 0 where
  pub placed : ArePlaces count ns places
  pub once : HasNoRepeat ns

pub no_places : (count : ℕ) → PlacedSoFar count [] (replicate count None)
no_places count = record {
  placed = record {
    many = length-replicate count None;
    each = λ n within. (None, slice_get-replicate count n None within, refl);
  };
  once = λ at r. none-some r.member r.again;
}

-- the slot of a number
slot_is : (count : ℕ) (ns : List ℕ) (places : List (Option ℕ)) (n : ℕ) (slot : Option ℕ) → ArePlaces count ns places → n < count →
    slice_get places n ≡ Some slot → IsPlace ns n slot
slot_is count ns places n slot h within there =
    let found = h.each n within in
    let alike : found.0 ≡ slot = same_Some found.0 slot (sym found.1 ∙ there) in
    rw (← alike) found.2

pub place_more : (count : ℕ) (ns : List ℕ) (i d : ℕ) (places : List (Option ℕ)) → i < length ns → get_or ns i d < count →
    slice_get places (get_or ns i d) ≡ Some None → PlacedSoFar count (take i ns) places →
    PlacedSoFar count (take (i + 1) ns) (set places (get_or ns i d) (Some i))
place_more count ns i d places within below free h = rw (take_more ns i d within) (record {
  placed = record {
    many = length-set places (get_or ns i d) (Some i) ∙ h.placed.many;
    each = λ n inside. by n inside (same (get_or ns i d) n);
  };
  once = once;
}) where
  m : ℕ
  m = get_or ns i d

  before : List ℕ
  before = take i ns

  new : is_among (take i ns) (get_or ns i d) ≡ false
  new = slot_is count (take i ns) places (get_or ns i d) None h.placed below free

  size : length (take i ns) ≡ i
  size = length-take-le i ns (omega (arith, within))

  by : (n : ℕ) → n < count → Same (get_or ns i d) n →
      (slot : Option ℕ) × (slice_get (set places (get_or ns i d) (Some i)) n ≡ Some slot)
      × IsPlace (take i ns ++ get_or ns i d ∷ []) n slot
  by n inside (equal e) = (
    Some i,
    rw e (slice_get_set_same places n (Some i) (omega (arith, inside, h.placed.many))),
    rw (← e) (ap (slice_get (take i ns ++ get_or ns i d ∷ [])) (sym size) ∙ slice_get-behind (take i ns) (get_or ns i d) []),
  )
  by n inside (other not e) =
      let found = h.placed.each n inside in
      (found.0, slice_get_set places (get_or ns i d) n (Some i) (λ k. not (sym k)) ∙ found.1, still found.0 found.2)
    where
      still : (slot : Option ℕ) → IsPlace (take i ns) n slot → IsPlace (take i ns ++ get_or ns i d ∷ []) n slot
      still (Some place) k = slice_get_grown (take i ns) (get_or ns i d ∷ []) place n k
      still None k = rw (among_push (take i ns) (get_or ns i d) n, k, e) refl

  once : HasNoRepeat (take i ns ++ get_or ns i d ∷ [])
  once at r = last (slice_get_push (take i ns) (get_or ns i d) at r.member r.again)
      (slice_get_push (take i ns) (get_or ns i d) r.earlier r.member r.first) where
        last : ((at < length (take i ns)) × (slice_get (take i ns) at ≡ Some r.member)) ⊎
            ((at ≡ length (take i ns)) × (get_or ns i d ≡ r.member)) →
            ((r.earlier < length (take i ns)) × (slice_get (take i ns) r.earlier ≡ Some r.member))
            ⊎ ((r.earlier ≡ length (take i ns)) × (get_or ns i d ≡ r.member)) → ⊥
        last (inl a) (inl b) = h.once at (record { earlier = r.earlier; before = r.before; member = r.member; first = b.1; again = a.1 })
        last (inl a) (inr b) = omega (arith, r.before, a.0, b.0)
        last (inr a) (inl b) =
            let there : is_among (take i ns) (get_or ns i d) ≡ true =
            among_at (take i ns) r.earlier (get_or ns i d) (b.1 ∙ ap (λ n. Some n) (sym a.1)) in
            let not : false ≡ true = sym new ∙ there in
            cc
        last (inr a) (inr b) = omega (arith, r.before, a.0, b.0)

pub place_again : (count : ℕ) (ns : List ℕ) (i d place : ℕ) (places : List (Option ℕ)) → i < length ns → get_or ns i d < count →
    slice_get places (get_or ns i d) ≡ Some (Some place) → PlacedSoFar count (take i ns) places → IsFirstRepeat ns i
place_again count ns i d place places within below taken h = record {
  repeat = record {
    earlier = place;
    before = found.0;
    member = get_or ns i d;
    first = found.1;
    again = slice_get-get_or ns i d within;
  };
  none_before = λ k less r. h.once k (record {
    earlier = r.earlier;
    before = r.before;
    member = r.member;
    first = slice_get_taken i ns r.earlier r.member (omega (arith, less, r.before)) r.first;
    again = slice_get_taken i ns k r.member less r.again;
  });
} where
  found : (place < i) × (slice_get ns place ≡ Some (get_or ns i d))
  found = slice_get-take i ns place (get_or ns i d) (slot_is count (take i ns) places (get_or ns i d) (Some place) h.placed below taken)
