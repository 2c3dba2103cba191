-- The entry of a name, by its place.
use Rattle.std.proofs.Common.{◌≡◌, ◌∙◌, ℕ, zero, suc, ◌<◌, ◌==◌, Bool, true, false, not, ◌||◌, cond, List, [], ◌∷◌, length, map}
use Rattle.std.proofs.Common.{Option, Some, None, refl, sym, ap, arith}
use Rattle.std.specs.Prelude.{slice_get, option_map, is_some, IsSomeAnd}
use Rattle.std.specs.List.{find, list_any}
use Rattle.std.proofs.lemmas.Bool.{eqb-true, not-false}
use Rattle.std.proofs.lemmas.List.{length-map}
use Rattle.std.proofs.lemmas.Option.{none-some, same_Some, slice_get_within}
use Rattle.base_library.proofs.Lists.{heads, tails, map_map}
use Rattle.base_library.specs.Numbers.{is_among}
use Rattle.base_library.specs.Options.{passes}
use Rattle.base_library.proofs.Booleans.{eqb_self, not_not}
use Rattle.base_library.proofs.Numbers.{among_at}
use Rattle.tsl_terms.specs.Name.{Name}
use Rattle.entry_names.specs.Needed.{number_for, is_for}
use Rattle.entry_names.specs.Places.{IsPlace}
use Rattle.entry_names.specs.Entries.{Subject, numbers_of, has_no_entry, AreLocated}

-- equal lists have equal heads and equal tails
cons_parts : {A : Type 0} (x y : A) (xs ys : List A) → x ∷ xs ≡ y ∷ ys → (x ≡ y) × (xs ≡ ys)
cons_parts x y xs ys e = (heads x y xs ys e, tails x y xs ys e)

-- ---- what is for a number

module _ {E : Type 0} (number : E → Option ℕ) (id : ℕ) where
  abbrev is : E → Bool
  is e = passes (λ n. n == id) (number e)

  -- what is for no number among these
  find_none : (es : List E) (ns : List ℕ) → map number es ≡ map (λ n. Some n) ns → is_among ns id ≡ false → find is es ≡ None
  find_none [] ns aligned absent = refl
  find_none (e ∷ es) [] aligned absent = absurd cc
  find_none (e ∷ es) (n ∷ ns) aligned absent =
      let parts = cons_parts (number e) (Some n) (map number es) (map (λ k. Some k) ns) aligned in
      by (n == id) refl parts.0 (find_none es ns parts.1) absent where
        by : (b : Bool) → (n == id) ≡ b → number e ≡ Some n → (is_among ns id ≡ false → find is es ≡ None) →
            is_among (n ∷ ns) id ≡ false → find is (e ∷ es) ≡ None
        by true h first further gone = let yes : is_among (n ∷ ns) id ≡ true = rw h refl in cc
        by false h first further gone = rw (first, h) (further (rw h at gone))

  -- what is for the number at a place, where it stands at no earlier one
  find_at : (es : List E) (ns : List ℕ) (p : ℕ) (e : E) → map number es ≡ map (λ n. Some n) ns → slice_get ns p ≡ Some id →
      ((k : ℕ) → k < p → slice_get ns k ≡ Some id → ⊥) → slice_get es p ≡ Some e → find is es ≡ Some e
  find_at [] ns p e aligned there new at = absurd (none-some e at)
  find_at (x ∷ es) [] p e aligned there new at = absurd (none-some id there)
  find_at (x ∷ es) (n ∷ ns) zero e aligned there new at =
      let parts = cons_parts (number x) (Some n) (map number es) (map (λ k. Some k) ns) aligned in
      let same : n ≡ id = same_Some n id there in
      rw (parts.0, same, eqb_self id) at
  find_at (x ∷ es) (n ∷ ns) (suc p) e aligned there new at =
      let parts = cons_parts (number x) (Some n) (map number es) (map (λ k. Some k) ns) aligned in
      by (n == id) refl parts.0 (find_at es ns p e parts.1 there (λ k less found. new (suc k) (omega (arith, less)) found) at) where
        by : (b : Bool) → (n == id) ≡ b → number x ≡ Some n → find is es ≡ Some e → find is (x ∷ es) ≡ Some e
        by true h first further = absurd (new zero (omega arith) (ap (λ k. Some k) (eqb-true n id h)))
        by false h first further = rw (first, h) further

  as_many : (es : List E) (ns : List ℕ) → map number es ≡ map (λ n. Some n) ns → length es ≡ length ns
  as_many es ns aligned = sym (length-map es number) ∙ ap length aligned ∙ length-map ns (λ n. Some n)

-- ---- the entry of a name

-- the slot of a name
pub slot_is : {names : List Name} {entries : List Subject} {places : List (Option ℕ)} (l : AreLocated names entries places) (id : ℕ)
    (slot : Option ℕ) → id < length names → slice_get places id ≡ Some slot → IsPlace l.numbers id slot
slot_is l id slot within there =
    let found = l.placed.each id within in
    let alike : found.0 ≡ slot = same_Some found.0 slot (sym found.1 ∙ there) in
    rw (← alike) found.2

module _ {E : Type 0} (subject : E → Subject) (names : List Name) (entries : List E) (places : List (Option ℕ))
    (l : AreLocated names (map subject entries) places) (id : ℕ) (within : id < length names) where
  aligned : map (λ e. number_for names (subject e).name) entries ≡ map (λ n. Some n) l.numbers
  aligned = sym (map_map (λ e. number_for names e.name) subject entries) ∙ l.numbers_are

  -- a name without a place has no entry
  pub none_given : slice_get places id ≡ Some None → find (λ e. is_for names id (subject e).name) entries ≡ None
  none_given there = find_none (λ e. number_for names (subject e).name) id entries l.numbers aligned (slot_is l id None within there)

  -- and a name with one has the entry there
  pub place_within : (place : ℕ) → slice_get places id ≡ Some (Some place) → place < length entries
  place_within place there =
      let stands : slice_get l.numbers place ≡ Some id = slot_is l id (Some place) within there in
      omega (
        arith,
        slice_get_within l.numbers place id stands,
        as_many (λ e. number_for names (subject e).name) id entries l.numbers aligned,
      )

  pub entry_given : (place : ℕ) (e : E) → slice_get places id ≡ Some (Some place) → slice_get entries place ≡ Some e →
      find (λ d. is_for names id (subject d).name) entries ≡ Some e
  entry_given place e there at =
      let stands : slice_get l.numbers place ≡ Some id = slot_is l id (Some place) within there in
      find_at (λ d. number_for names (subject d).name) id entries l.numbers place e aligned stands
      (λ k less found. l.once place (record { earlier = k; before = less; member = id; first = found; again = stands })) at

-- ---- whether a name has an entry

module _ (names : List Name) (id : ℕ) where
  any_among : (es : List Subject) (ns : List ℕ) → numbers_of names es ≡ map (λ n. Some n) ns →
      list_any (λ e. is_for names id e.name) es ≡ is_among ns id
  any_among [] [] e = refl
  any_among [] (n ∷ ns) e = absurd cc
  any_among (x ∷ es) [] e = absurd cc
  any_among (x ∷ es) (n ∷ ns) e =
      let parts = cons_parts (number_for names x.name) (Some n) (numbers_of names es) (map (λ k. Some k) ns) e in
      rw (parts.0, any_among es ns parts.1) refl

  pub no_entry : (entries : List Subject) (places : List (Option ℕ)) (slot : Option ℕ) (none : Bool) → AreLocated names entries places →
      id < length names → slice_get places id ≡ Some slot → is_some slot ≡ not none → none ≡ has_no_entry names entries id
  no_entry entries places slot none l within at e =
      sym (not_not none) ∙ ap not (sym e ∙ by slot (slot_is l id slot within at) ∙ sym (any_among entries l.numbers l.numbers_are)) where
        by : (s : Option ℕ) → IsPlace l.numbers id s → is_some s ≡ is_among l.numbers id
        by (Some p) k = sym (among_at l.numbers p id k)
        by None k = sym k

  -- a name that has an entry has a place
  pub has_place : (entries : List Subject) (places : List (Option ℕ)) → AreLocated names entries places → id < length names →
      has_no_entry names entries id ≡ false → IsSomeAnd (slice_get places id) (λ slot. is_some slot ≡ true)
  has_place entries places l within h =
      let found = l.placed.each id within in
      let none = no_entry entries places found.0 (not (is_some found.0)) l within found.1 (sym (not_not (is_some found.0))) in
      rw found.1 (not-false (is_some found.0) (none ∙ h))

  -- where a name has an entry, it is found
  pub found_entry : {E : Type 0} (subject : E → Subject) (es : List E) → has_no_entry names (map subject es) id ≡ false →
      (e : E) × (find (λ d. is_for names id (subject d).name) es ≡ Some e)
  found_entry subject [] h = absurd cc
  found_entry {E = E} subject (x ∷ es) h = by (is_for names id (subject x).name) refl (found_entry subject es) h where
    by : (b : Bool) → is_for names id (subject x).name ≡ b →
        (has_no_entry names (map subject es) id ≡ false → (e : E) × (find (λ d. is_for names id (subject d).name) es ≡ Some e)) →
        has_no_entry names (map subject (x ∷ es)) id ≡ false →
        (e : E) × (find (λ d. is_for names id (subject d).name) (x ∷ es) ≡ Some e)
    by true e further k = (x, ap (λ b. cond b (Some x) (find (λ d. is_for names id (subject d).name) es)) e)
    by false e further k =
        let rest = further (sym (ap (λ b. not (b || list_any (λ d. is_for names id d.name) (map subject es))) e) ∙ k) in
        (rest.0, ap (λ b. cond b (Some x) (find (λ d. is_for names id (subject d).name) es)) e ∙ rest.1)

-- ---- entries in memory

pub subjects_are : {U V : Type 0} (subject : V → Subject) (view : U → V) (lent es : List U) → lent ≡ es →
    map (λ e. subject (view e)) lent ≡ map subject (map view es)
subjects_are subject view lent es same = sym (map_map subject view lent) ∙ ap (λ xs. map subject (map view xs)) same

-- the first one of the images
pub found_view : {X Y : Type 0} (view : X → Y) (test : Y → Bool) (xs : List X) →
    find test (map view xs) ≡ option_map view (find (λ x. test (view x)) xs)
found_view view test [] = refl
found_view view test (x ∷ xs) = by (test (view x)) (found_view view test xs) where
  by : (b : Bool) → find test (map view xs) ≡ option_map view (find (λ y. test (view y)) xs) →
      cond b (Some (view x)) (find test (map view xs)) ≡ option_map view (cond b (Some x) (find (λ y. test (view y)) xs))
  by true h = refl
  by false h = h

-- what is seen of it
pub seen_entry : {U V W : Type 0} (view : U → V) (test : V → Bool) (what : V → W) (xs : List U) (o : Option U) →
    o ≡ find (λ x. test (view x)) xs →
    option_map what (option_map view o) ≡ option_map what (find test (map view xs))
seen_entry view test what xs o is = ap (option_map what) (ap (option_map view) is ∙ sym (found_view view test xs))
