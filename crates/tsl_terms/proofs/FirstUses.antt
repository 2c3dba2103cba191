-- First uses, and the uses that are not like them.
use Rattle.std.proofs.Common.{
  ◌≡◌,
  ℕ,
  zero,
  suc,
  ◌+◌,
  ◌<◌,
  ◌≤◌,
  ◌^◌,
  ◌⊎◌,
  inl,
  inr,
  Bool,
  true,
  false,
  not,
  cond,
  List,
  [],
  ◌∷◌,
  ◌++◌,
  length,
  get_or,
  drop,
  map,
  refl,
  ap,
  sym,
  ◌∙◌,
  arith,
  length-append,
}
use Rattle.std.specs.Prelude.{Option, Some, None, option_map, option_and_then, slice_get, position, nat_lt}
use Rattle.std.specs.List.{position_or_len}
use Rattle.std.specs.Option.{option_map_or, option_or}
use Rattle.std.specs.Str.{bytes_eq}
use Rattle.std.proofs.lemmas.Bool.{not-true}
use Rattle.std.proofs.lemmas.Bool.Decides.{nat_tests}
use Rattle.std.proofs.lemmas.Grind.{common_steps}
use Rattle.std.proofs.lemmas.List.{drop_more, length-map}
use Rattle.std.proofs.lemmas.Option.{slice_get-map, slice_get-get_or, slice_get_within}
use Rattle.base_library.proofs.Bytes.{bytes_same, same_bytes}
use Rattle.base_library.proofs.Places.{slice_get_one, slice_get_push}
use Rattle.tsl_terms.specs.declared.clash.NameUse.{NameUse}
use Rattle.tsl_terms.specs.Name.{Name, number_of, texts, AreDistinct}
use Rattle.tsl_terms.specs.Clashes.{name_use, added_unless_found, with_use, with_uses, first_uses, IsClash}
use Rattle.tsl_terms.specs.internal.FirstUse.{name_with, differs_from}

-- the first place that passes
abbrev place : {X : Type 0} → (X → Bool) → List X → Option ℕ
place p [] = None
place p (x ∷ xs) = cond (p x) (Some 0) (option_map (λ k. suc k) (place p xs))

shift : (i n : ℕ) → cond (nat_lt (1 + i) (suc n)) (Some (1 + i)) None ≡ option_map (λ k. suc k) (cond (nat_lt i n) (Some i) None)
shift i n = grind (arith, common_steps, nat_tests)

start : (n : ℕ) → cond {A = Option ℕ} (nat_lt 0 (suc n)) (Some 0) None ≡ Some 0
start n = grind (arith, common_steps, nat_tests)

position_is : {X : Type 0} (p : X → Bool) (xs : List X) → position p xs ≡ place p xs
position_is p [] = refl
position_is {X = X} p (x ∷ xs) = by (p x) refl (position_is p xs) where
  by : (is : Bool) → p x ≡ is → position p xs ≡ place p xs → position p (x ∷ xs) ≡ cond is (Some 0) (option_map (λ k. suc k) (place p xs))
  by true e h = rw e (start (length xs))
  by false e h = rw e (shift (position_or_len p xs) (length xs) ∙ ap (option_map (λ k. suc k)) h)

-- ---- the first name with a text

abbrev pub first_of : List Name → List ℕ → Option Name
first_of [] text = None
first_of (n ∷ ns) text = cond (bytes_eq text n.text) (Some n) (first_of ns text)

at_number : (n : Name) (ns : List Name) (text : List ℕ) (is : Bool) (found : Option ℕ) →
    option_and_then (slice_get ns) found ≡ first_of ns text →
    option_and_then (slice_get (n ∷ ns)) (cond is (Some 0) (option_map (λ k. suc k) found)) ≡ cond is (Some n) (first_of ns text)
at_number n ns text true found h = refl
at_number n ns text false None h = h
at_number n ns text false (Some k) h = h

at_place : (names : List Name) (text : List ℕ) →
    option_and_then (slice_get names) (place (bytes_eq text) (texts names)) ≡ first_of names text
at_place [] text = refl
at_place (n ∷ ns) text = at_number n ns text (bytes_eq text n.text) (place (bytes_eq text) (texts ns)) (at_place ns text)

-- the name at the number of a text is the first one with it
pub named_is : (names : List Name) (text : List ℕ) → name_with names text ≡ first_of names text
named_is names text = ap (option_and_then (slice_get names)) (position_is (bytes_eq text) (texts names)) ∙ at_place names text

-- a text that has no number has no name
pub not_found : (names : List Name) (text : List ℕ) → number_of names text ≡ None → first_of names text ≡ None
not_found names text h = sym (named_is names text) ∙ ap (option_and_then (slice_get names)) h

none_placed : (ns : List Name) (text : List ℕ) → first_of ns text ≡ None → place (bytes_eq text) (texts ns) ≡ None
none_placed [] text none = refl
none_placed (n ∷ ns) text none = by (bytes_eq text n.text) (none_placed ns text) none where
  by : (is : Bool) → (first_of ns text ≡ None → place (bytes_eq text) (texts ns) ≡ None) → cond is (Some n) (first_of ns text) ≡ None →
      cond is (Some 0) (option_map (λ k. suc k) (place (bytes_eq text) (texts ns))) ≡ None
  by true h none = cc
  by false h none = ap (option_map (λ k. suc k)) (h none)

none_numbered : (names : List Name) (text : List ℕ) → first_of names text ≡ None → number_of names text ≡ None
none_numbered names text none = position_is (bytes_eq text) (texts names) ∙ none_placed names text none

-- each name's text has a first one
pub first_some : (us : List Name) (at : ℕ) (u : Name) → slice_get us at ≡ Some u → (f : Name) × (first_of us u.text ≡ Some f)
first_some [] at u there = cc
first_some (v ∷ us) zero u there =
    let same : v ≡ u = cc in
    (v, ap (λ b. cond b (Some v) (first_of us u.text)) (bytes_same u.text v.text (ap (λ n. n.text) (sym same))))
first_some (v ∷ us) (suc at) u there = by (bytes_eq u.text v.text) (first_some us at u there) where
  by : (is : Bool) → (f : Name) × (first_of us u.text ≡ Some f) → (f : Name) × (cond is (Some v) (first_of us u.text) ≡ Some f)
  by true k = (v, refl)
  by false k = k

-- ---- first uses

first_append : (xs ys : List Name) (text : List ℕ) → first_of (xs ++ ys) text ≡ option_or (first_of xs text) (first_of ys text)
first_append [] ys text = refl
first_append (x ∷ xs) ys text = by (bytes_eq text x.text) (first_append xs ys text) where
  by : (is : Bool) → first_of (xs ++ ys) text ≡ option_or (first_of xs text) (first_of ys text) →
      cond is (Some x) (first_of (xs ++ ys) text) ≡ option_or (cond is (Some x) (first_of xs text)) (first_of ys text)
  by true h = refl
  by false h = h

-- a use that is added is the first of its text where there was none
first_added : (names : List Name) (u : Name) (text : List ℕ) (found : Option ℕ) → number_of names u.text ≡ found →
    first_of (added_unless_found names u found) text ≡ option_or (first_of names text) (first_of (u ∷ []) text)
first_added names u text None e = first_append names (u ∷ []) text
first_added names u text (Some k) e = by (first_of names text) refl (bytes_eq text u.text) refl where
  by : (first : Option Name) → first_of names text ≡ first → (is : Bool) → bytes_eq text u.text ≡ is →
      first_of names text ≡ option_or first (cond is (Some u) None)
  by (Some n) f is b = f
  by None f false b = f
  by None f true b =
      let none : number_of names u.text ≡ None = none_numbered names u.text (ap (first_of names) (sym (same_bytes text u.text b)) ∙ f) in
      cc

or_assoc : (a b c : Option Name) → option_or (option_or a b) c ≡ option_or a (option_or b c)
or_assoc None b c = refl
or_assoc (Some a) b c = refl

first_with_uses : (us names : List Name) (text : List ℕ) →
    first_of (with_uses names us) text ≡ option_or (first_of names text) (first_of us text)
first_with_uses [] names text = or_none (first_of names text) where
  or_none : (a : Option Name) → a ≡ option_or a None
  or_none None = refl
  or_none (Some a) = refl
first_with_uses (u ∷ us) names text =
    first_with_uses us (with_use names u) text
    ∙ ap (λ first. option_or first (first_of us text)) (first_added names u text (number_of names u.text) refl)
    ∙ or_assoc (first_of names text) (first_of (u ∷ []) text) (first_of us text)
    ∙ ap (option_or (first_of names text)) (sym (first_append (u ∷ []) us text))

-- the name with a text is its first use
pub named_first : (us : List Name) (text : List ℕ) → name_with (first_uses us) text ≡ first_of us text
named_first us text = named_is (first_uses us) text ∙ first_with_uses us [] text

-- no text stands twice
absent : (names : List Name) (text : List ℕ) → number_of names text ≡ None → (i : ℕ) (m : Name) → slice_get names i ≡ Some m →
    m.text ≡ text → ⊥
absent names text none i m there same =
    let first = first_some names i m there in
    let found : Some first.0 ≡ None = sym first.1 ∙ ap (first_of names) same ∙ not_found names text none in
    cc

push_distinct : (names : List Name) (u : Name) → number_of names u.text ≡ None → AreDistinct names → AreDistinct (names ++ u ∷ [])
push_distinct names u none h i j m n there here same = by (slice_get_push names u i m there) (slice_get_push names u j n here) where
  by : (((i < length names) × (slice_get names i ≡ Some m)) ⊎ ((i ≡ length names) × (u ≡ m))) →
      (((j < length names) × (slice_get names j ≡ Some n)) ⊎ ((j ≡ length names) × (u ≡ n))) → i ≡ j
  by (inl a) (inl b) = h i j m n a.1 b.1 same
  by (inl a) (inr b) = absurd (absent names u.text none i m a.1 (same ∙ ap (λ x. x.text) (sym b.1)))
  by (inr a) (inl b) = absurd (absent names u.text none j n b.1 (sym same ∙ ap (λ x. x.text) (sym a.1)))
  by (inr a) (inr b) = a.0 ∙ sym b.0

added_distinct : (names : List Name) (u : Name) (found : Option ℕ) → number_of names u.text ≡ found → AreDistinct names →
    AreDistinct (added_unless_found names u found)
added_distinct names u (Some number) e h = h
added_distinct names u None e h = push_distinct names u e h

with_uses_distinct : (us names : List Name) → AreDistinct names → AreDistinct (with_uses names us)
with_uses_distinct [] names h = h
with_uses_distinct (u ∷ us) names h = with_uses_distinct us (with_use names u) (added_distinct names u (number_of names u.text) refl h)

pub first_uses_distinct : (us : List Name) → AreDistinct (first_uses us)
first_uses_distinct us = with_uses_distinct us [] (λ i j m n there. absurd cc)

-- ---- where the first use of a text stands

pub record FirstAt (us : List Name) (text : List ℕ) (f : Name) : Type 0 where
  pub at : ℕ
  pub there : slice_get us at ≡ Some f
  pub same : text ≡ f.text
  pub none_before : (i : ℕ) (m : Name) → i < at → slice_get us i ≡ Some m → text ≡ m.text → ⊥

pub first_at : (us : List Name) (text : List ℕ) (f : Name) → first_of us text ≡ Some f → FirstAt us text f
first_at [] text f h = cc
first_at (u ∷ us) text f h = by (bytes_eq text u.text) refl h (first_at us text f) where
  by : (is : Bool) → bytes_eq text u.text ≡ is → cond is (Some u) (first_of us text) ≡ Some f →
      (first_of us text ≡ Some f → FirstAt us text f) → FirstAt (u ∷ us) text f
  by true e g further =
      let is : u ≡ f = cc in
      record {
        at = 0;
        there = ap Some is;
        same = same_bytes text u.text e
            ∙ ap (λ n. n.text) is;
        none_before = λ i m less. absurd (omega (arith, less));
      }
  by false e g further =
      let k : FirstAt us text f = further g in
      record { at = suc k.at; there = k.there; same = k.same; none_before = before k } where
        before : (k : FirstAt us text f) → (i : ℕ) (m : Name) → i < suc k.at → slice_get (u ∷ us) i ≡ Some m → text ≡ m.text → ⊥
        before k zero m less there same =
            let first : u ≡ m = cc in
            let equal : bytes_eq text u.text ≡ true = bytes_same text u.text (same ∙ ap (λ n. n.text) (sym first)) in
            cc
        before k (suc i) m less there same = k.none_before i m (omega (arith, less)) there same

-- the first use at a place is the one that is found
first_is : (us : List Name) (at : ℕ) (f : Name) → slice_get us at ≡ Some f →
    ((i : ℕ) (m : Name) → i < at → slice_get us i ≡ Some m → f.text ≡ m.text → ⊥) → first_of us f.text ≡ Some f
first_is [] at f there none = cc
first_is (u ∷ us) zero f there none =
    let is : u ≡ f = cc in
    ap (λ b. cond b (Some u) (first_of us f.text)) (bytes_same f.text u.text (ap (λ n. n.text) (sym is))) ∙ ap Some is
first_is (u ∷ us) (suc at) f there none =
    let differs : bytes_eq f.text u.text ≡ false = by (bytes_eq f.text u.text) refl in
    ap (λ b. cond b (Some u) (first_of us f.text)) differs ∙ first_is us at f there (λ i m less e. none (suc i) m (omega (arith, less)) e)
  where
    by : (is : Bool) → bytes_eq f.text u.text ≡ is → is ≡ false
    by true e = absurd (none zero u (omega arith) refl (same_bytes f.text u.text e))
    by false e = refl

-- ---- clashes

-- a use that is not like the first use of its name is a clash
pub clash_of : (alike : Name → Name → Bool) (us : List Name) (at : ℕ) (u f : Name) → slice_get us at ≡ Some u →
    first_of us u.text ≡ Some f →
    alike f u ≡ false → IsClash alike us at
clash_of alike us at u f there found unlike =
    let first : FirstAt us u.text f = first_at us u.text f found in
    record {
      first_at = first.at;
      first = f;
      usage = u;
      first_there = first.there;
      use_there = there;
      same_name = sym first.same;
      is_first = λ i m n less a b same.
          let is : f ≡ n = slice_get_one us first.at f n first.there b in
          first.none_before i m less a (first.same ∙ ap (λ x. x.text) is ∙ sym same);
      differs = unlike;
    }

-- and the other way round
clash_first : (alike : Name → Name → Bool) (us : List Name) (at : ℕ) → (h : IsClash alike us at) → first_of us h.usage.text ≡ Some h.first
clash_first alike us at h =
    ap (first_of us) (sym h.same_name)
    ∙ first_is us h.first_at h.first h.first_there (λ i m less a same. h.is_first i m h.first less a h.first_there (sym same))

-- the same by the table of first uses
differs_is : (alike : Name → Name → Bool) (us : List Name) (u : Name) →
    differs_from alike (first_uses us) u ≡ option_map_or (λ n. not (alike n u)) (first_of us u.text) false
differs_is alike us u = ap (λ found. option_map_or (λ n. not (alike n u)) found false) (named_first us u.text)

use_at : (us : List NameUse) (i : ℕ) (d : NameUse) → i < length us → slice_get (map name_use us) i ≡ Some (name_use (get_or us i d))
use_at us i d within = slice_get-map name_use us i ∙ ap (option_map name_use) (slice_get-get_or us i d within)

pub clash_at : (alike : Name → Name → Bool) (firsts : List Name) (us : List NameUse) (i : ℕ) (d : NameUse) (test : Bool) →
    firsts ≡ first_uses (map name_use us) →
    i < length us → test ≡ differs_from alike firsts (name_use (get_or us i d)) → test ≡ true → IsClash alike (map name_use us) i
clash_at alike firsts us i d test table within is h = by (first_of (map name_use us) u.text) refl told where
  u : Name
  u = name_use (get_or us i d)

  told : option_map_or (λ n. not (alike n u)) (first_of (map name_use us) u.text) false ≡ true
  told = sym (differs_is alike (map name_use us) u) ∙ ap (λ names. differs_from alike names u) (sym table) ∙ sym is ∙ h

  by : (found : Option Name) → first_of (map name_use us) u.text ≡ found → option_map_or (λ n. not (alike n u)) found false ≡ true →
      IsClash alike (map name_use us) i
  by None e k = cc
  by (Some f) e k = clash_of alike (map name_use us) i u f (use_at us i d within) e (not-true (alike f u) k)

pub no_clash_at : (alike : Name → Name → Bool) (firsts : List Name) (us : List NameUse) (i : ℕ) (d : NameUse) (test : Bool) →
    firsts ≡ first_uses (map name_use us) →
    i < length us → test ≡ differs_from alike firsts (name_use (get_or us i d)) → test ≡ false → IsClash alike (map name_use us) i → ⊥
no_clash_at alike firsts us i d test table within is h clash =
    let same : clash.usage ≡ name_use (get_or us i d) =
    slice_get_one (map name_use us) i clash.usage (name_use (get_or us i d)) clash.use_there (use_at us i d within) in
    let differs : differs_from alike (first_uses (map name_use us)) clash.usage ≡ true =
    differs_is alike (map name_use us) clash.usage
    ∙ ap (λ found. option_map_or (λ n. not (alike n clash.usage)) found false) (clash_first alike (map name_use us) i clash)
    ∙ ap not clash.differs in
    let never : true ≡ false =
    sym differs ∙ ap (differs_from alike (first_uses (map name_use us))) same
    ∙ ap (λ names. differs_from alike names (name_use (get_or us i d))) (sym table) ∙ sym is ∙ h in
    cc

-- a clash stands among the uses
pub clash_within : (alike : Name → Name → Bool) (us : List NameUse) (i : ℕ) → IsClash alike (map name_use us) i → i < length us
clash_within alike us i clash = omega (arith, slice_get_within (map name_use us) i clash.usage clash.use_there, length-map us name_use)

-- ---- the table of first uses, use by use

next_use : (us : List NameUse) (i : ℕ) (d : NameUse) → i < length us →
    map name_use (drop i us) ≡ name_use (get_or us i d) ∷ map name_use (drop (i + 1) us)
next_use us i d within = ap (map name_use) (drop_more us i d within)

-- names only get more
pub grows : (us names : List Name) → length names ≤ length (with_uses names us)
grows [] names = omega arith
grows (u ∷ us) names = by (number_of names u.text) (grows us (added_unless_found names u (number_of names u.text))) where
  by : (found : Option ℕ) → length (added_unless_found names u found) ≤ length (with_uses (added_unless_found names u found) us) →
      length names ≤ length (with_uses (added_unless_found names u found) us)
  by (Some k) h = h
  by None h = omega (arith, h, length-append names (u ∷ []))

-- there is room for the name of one use more
pub room : (names all : List Name) (us : List NameUse) (i : ℕ) (d : NameUse) → i < length us →
    with_uses names (map name_use (drop i us)) ≡ all → length all < 2 ^ 32 →
    number_of names (get_or us i d).text.now ≡ None → length names + 1 < 2 ^ 32
room names all us i d within is few none =
    let u = name_use (get_or us i d) in
    let rest = map name_use (drop (i + 1) us) in
    let more : with_uses (names ++ u ∷ []) rest ≡ all = ap (λ found. with_uses (added_unless_found names u found) rest) (sym none)
    ∙ sym (ap (with_uses names) (next_use us i d within)) ∙ is in
    omega (arith, few, ap length more, grows rest (names ++ u ∷ []), length-append names (u ∷ []))

pub names_after : (names more all : List Name) (us : List NameUse) (i : ℕ) (d : NameUse) → i < length us →
    more ≡ with_use names (name_use (get_or us i d)) →
    with_uses names (map name_use (drop i us)) ≡ all → with_uses more (map name_use (drop (i + 1) us)) ≡ all
names_after names more all us i d within is h = rw is (rw (next_use us i d within) at h)
