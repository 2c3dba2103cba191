-- When a reader reads exactly what pieces spell, and how readers made of others keep this.
use Rattle.std.proofs.Common.{◌≡◌, ℕ, zero, suc, ◌+◌, ◌≤◌, Bool, true, false, ◌&&◌, cond, List, [], ◌∷◌, ◌++◌, length, length-append}
use Rattle.std.proofs.Common.{flat_map, Option, Some, None, option_map, option_and_then, IfSome, IsTrue, refl, sym, ap, subst, ◌∙◌, arith}
use Rattle.std.specs.List.{list_all}
use Rattle.std.proofs.lemmas.Bool.{and_parts, and_from}
use Rattle.std.proofs.lemmas.Option.{IfSome_then}
use Rattle.program_listing.specs.LineText.{Piece, word, Place, Stand}
use Rattle.program_listing.specs.internal.LineReading.{LineReader, Shrinks, past, mapped, and_next, pair, prefixed, and_past, closed}
use Rattle.program_listing.specs.internal.LineReading.{nothing, either, with_first, go_on, repeat_most, repeat}
use Rattle.program_listing.proofs.Strips.{past_found, past_sound}
use Rattle.program_listing.proofs.Standing.{stand_append, stand_split, stand_shorter}
use Rattle.program_listing.proofs.Repeats.{repeat_more, repeat_end}

-- what was read stands between the two places and keeps the limits
abbrev pub ReadAt : {V : Type 0} → (V → List Piece) → (V → Bool) → Place → V × Place → Type 0
ReadAt pieces within p r = Stand (pieces r.0) p r.1 × IsTrue (within r.0)

-- What is read stands there. And what stands there is read, where such bytes follow.
pub record Reads {V : Type 0} (reader : LineReader V) (pieces : V → List Piece) (within : V → Bool) (Ends : List ℕ → Type 0) : Type 0 where
  pub sound : (p : Place) → IfSome (reader p) (ReadAt pieces within p)
  pub complete : (p : Place) (v : V) (q : Place) → Stand (pieces v) p q → IsTrue (within v) → Ends q.bytes → reader p ≡ Some (v, q)

abbrev pub Any : List ℕ → Type 0
Any bytes = Unit {0}

module _ {A B : Type 0} {P : A → Type 0} (Q : B → Type 0) where
  pub if_mapped : (o : Option A) (f : A → B) → IfSome o P → ((a : A) → P a → Q (f a)) → IfSome (option_map f o) Q
  if_mapped None f h next = tt
  if_mapped (Some a) f h next = next a h

  pub if_then : (o : Option A) (f : A → Option B) → IfSome o P → ((a : A) → P a → IfSome (f a) Q) → IfSome (option_and_then f o) Q
  if_then None f h next = tt
  if_then (Some a) f h next = next a h

-- where the bytes begin so, the reader can be computed there
pub at_front : {V : Type 0} (reader : Place → V) (p : Place) (bytes : List ℕ) (v : V) → p.bytes ≡ bytes →
    reader (record { at = p.at; bytes = bytes }) ≡ v → reader p ≡ v
at_front reader p bytes v e h = ap (λ (xs : List ℕ). reader (record { at = p.at; bytes = xs })) e ∙ h

-- nothing is read
pub nothing_reads : Reads (nothing (tt {0})) (λ u. []) (λ u. true) Any
nothing_reads = record { sound = λ p. (refl, refl); complete = λ p u q s good ends. ap (λ (x : Place). Some (tt, x)) s }

module _ {A : Type 0} {reader : LineReader A} {pieces : A → List Piece} {within : A → Bool} {Ends : List ℕ → Type 0} where
  -- after a word
  pub prefixed_reads : (w : List ℕ) → Reads reader pieces within Ends → Reads (prefixed w reader) (λ a. word w ∷ pieces a) within Ends
  prefixed_reads w h = record {
    sound = λ p. if_then _ (past w p) reader (past_sound w p) (λ m s. IfSome_then (reader m) (h.sound m)
        (λ r t. (stand_append (word w ∷ []) (pieces r.0) p m r.1 s t.0, t.1)));
    complete = λ p a q s good ends.
        ap (option_and_then reader) (past_found w p s.0 s.1)
        ∙ h.complete (record { at = p.at + length w; bytes = s.0 }) a q s.2 good ends;
  }

  -- before a word
  pub closed_reads : (w : List ℕ) → ((rest : List ℕ) → Ends (w ++ rest)) → Reads reader pieces within Ends →
      Reads (closed w reader) (λ a. pieces a ++ word w ∷ []) within Any
  closed_reads w may_end h = record {
    sound = λ p. if_then _ (reader p) (and_past w) (h.sound p) (λ r s. if_mapped _ (past w r.1) (λ q. (r.0, q)) (past_sound w r.1)
        (λ q t. (stand_append (pieces r.0) (word w ∷ []) p r.1 q s.0 t, s.1)));
    complete = λ p a q s good ends.
        let parts = stand_split (pieces a) (word w ∷ []) p q s in
        ap (option_and_then (and_past w)) (h.complete p a parts.0 parts.1 good (subst Ends (sym parts.2.1) (may_end parts.2.0)))
        ∙ ap (option_map (λ (x : Place). (a, x))) (past_found w parts.0 parts.2.0 parts.2.1) ∙ ap (λ (x : Place). Some (a, x)) parts.2.2;
  }

  -- the same in other words
  pub restated : {others : A → List Piece} {good : A → Bool} → ((a : A) → IsTrue (within a) → pieces a ≡ others a) →
      ((a : A) → within a ≡ good a) → Reads reader pieces within Ends → Reads reader others good Ends
  restated same keeps h = record {
    sound = λ p. IfSome_then (reader p) (h.sound p)
        (λ r s. (subst (λ (xs : List Piece). Stand xs p r.1) (same r.0 s.1) s.0, sym (keeps r.0) ∙ s.1));
    complete = λ p a q s fine ends.
        let kept : IsTrue (within a) = keeps a ∙ fine in
        h.complete p a q (subst (λ (xs : List Piece). Stand xs p q) (sym (same a kept)) s) kept ends;
  }

  -- another value
  pub mapped_reads : {B : Type 0} {others : B → List Piece} {good : B → Bool} (make : A → B) (back : B → A) →
      ((b : B) → make (back b) ≡ b) → ((a : A) → IsTrue (within a) → pieces a ≡ others (make a)) → ((a : A) → within a ≡ good (make a)) →
      Reads reader pieces within Ends → Reads (λ p. mapped make (reader p)) others good Ends
  mapped_reads {B} {others} {good} make back again same keeps h = record {
    sound = λ p. if_mapped _ (reader p) (λ r. (make r.0, r.1)) (h.sound p)
        (λ r s. (subst (λ (xs : List Piece). Stand xs p r.1) (same r.0 s.1) s.0, sym (keeps r.0) ∙ s.1));
    complete = λ p b q s fine ends.
        let kept : IsTrue (within (back b)) = keeps (back b) ∙ ap good (again b) ∙ fine in
        let way : others b ≡ pieces (back b) = ap others (sym (again b)) ∙ sym (same (back b) kept) in
        ap (mapped make) (h.complete p (back b) q (subst (λ (xs : List Piece). Stand xs p q) way s) kept ends)
        ∙ ap (λ (x : B). Some (x, q)) (again b);
  }

  -- one kind of what is read, by its first word
  pub either_sound : {B : Type 0} (others : B → List Piece) (good : B → Bool) (w : List ℕ) → Reads reader pieces within Ends →
      (make : A → B) → ((a : A) → word w ∷ pieces a ≡ others (make a)) → ((a : A) → within a ≡ good (make a)) → (p : Place)
      (other : Option (B × Place)) → IfSome other (ReadAt others good p) →
      IfSome (either (past w p) (λ m. mapped make (reader m)) other) (ReadAt others good p)
  either_sound {B} others good w h make same keeps p other next = by (past w p) (past_sound w p) where
    by : (o : Option Place) → IfSome o (λ m. Stand (word w ∷ []) p m) →
        IfSome (either o (λ m. mapped make (reader m)) other) (ReadAt others good p)
    by None s = next
    by (Some m) s = if_mapped _ (reader m) (λ r. (make r.0, r.1)) (h.sound m) (λ r t. (
      subst (λ (xs : List Piece). Stand xs p r.1) (same r.0) (stand_append (word w ∷ []) (pieces r.0) p m r.1 s t.0),
      sym (keeps r.0) ∙ t.1,
    ))

-- what begins with a word takes a byte at least
pub shrinks : {A : Type 0} {reader : LineReader A} {within : A → Bool} {Ends : List ℕ → Type 0} (b : ℕ) (w : List ℕ)
    (pieces : A → List Piece) → Reads reader (λ a. word (b ∷ w) ∷ pieces a) within Ends → Shrinks reader
shrinks {A} {reader} {within} b w pieces h p a q e =
    let s = (subst (λ (o : Option (A × Place)). IfSome o (ReadAt (λ a. word (b ∷ w) ∷ pieces a) within p)) e (h.sound p)).0 in
    let rest : length q.bytes ≤ length s.0 = stand_shorter (pieces a) _ q s.2 in
    let whole : length p.bytes ≡ suc (length w) + length s.0 = ap length s.1 ∙ length-append (b ∷ w) s.0 in
    omega arith

-- ---- one after another

module _ {A B : Type 0} {first : LineReader A} {second : LineReader B} {xs : A → List Piece} {ys : B → List Piece}
    {good : A → Bool} {fine : B → Bool} {Between Ends : List ℕ → Type 0} where
  pub pair_reads :
      ((b : B) (p q : Place) → Stand (ys b) p q → IsTrue (fine b) → Ends q.bytes → Between p.bytes) →
      Reads first xs good Between → Reads second ys fine Ends →
      Reads (pair first second) (λ v. xs v.0 ++ ys v.1) (λ v. good v.0 && fine v.1) Ends
  pair_reads meets h k = record {
    sound = λ p. if_then _ (first p) (and_next second) (h.sound p) (λ r s. if_mapped _ (second r.1) (λ t. ((r.0, t.0), t.1)) (k.sound r.1)
        (λ t u. (stand_append (xs r.0) (ys t.0) p r.1 t.1 s.0 u.0, and_from (good r.0) (fine t.0) s.1 u.1)));
    complete = λ p v q s within ends.
        let parts = stand_split (xs v.0) (ys v.1) p q s in
        let both = and_parts (good v.0) (fine v.1) within in
        ap (option_and_then (and_next second))
        (h.complete p v.0 parts.0 parts.1 both.0 (meets v.1 parts.0 q parts.2 both.1 ends))
        ∙ ap (option_map (λ (t : B × Place). ((v.0, t.0), t.1))) (k.complete parts.0 v.1 q parts.2 both.1 ends);
  }

-- ---- as often as a test holds

module _ {A : Type 0} {item : LineReader A} {pieces : A → List Piece} {within : A → Bool} {After Ends : List ℕ → Type 0}
    (test : List ℕ → Bool)
    (h : Reads item pieces within After) (shrinks : Shrinks item)
    (starts : (a : A) (p q : Place) → Stand (pieces a) p q → IsTrue (within a) → After q.bytes → (test p.bytes ≡ true) × After p.bytes)
    (stops : (bytes : List ℕ) → Ends bytes → (test bytes ≡ false) × After bytes) where
  -- what may follow an item stands before items
  before_many : (as' : List A) (p q : Place) → Stand (flat_map pieces as') p q → IsTrue (list_all within as') → Ends q.bytes → After p.bytes
  before_many [] p q s good ends = subst (λ (x : Place). After x.bytes) (sym s) (stops q.bytes ends).1
  before_many (a ∷ as') p q s good ends =
      let parts = stand_split (pieces a) (flat_map pieces as') p q s in
      let both = and_parts (within a) (list_all within as') good in
      (starts a p parts.0 parts.1 both.0 (before_many as' parts.0 q parts.2 both.1 ends)).1

  sound : (most : ℕ) (p : Place) → IfSome (repeat_most most test item p) (ReadAt (flat_map pieces) (list_all within) p)
  unfolding repeat_most
  sound zero p = tt
  sound (suc most) p = by (test p.bytes) (sound most) where
    by : (t : Bool) → ((m : Place) → IfSome (repeat_most most test item m) (ReadAt (flat_map pieces) (list_all within) m)) →
        IfSome (go_on p (cond t (Some (item p)) None) (repeat_most most test item)) (ReadAt (flat_map pieces) (list_all within) p)
    by false more = (refl, refl)
    by true more = if_then _ (item p) _ (h.sound p) (λ r s. if_mapped _ (repeat_most most test item r.1) _ (more r.1) (λ t u. (
      stand_append (pieces r.0) (flat_map pieces t.0) p r.1 t.1 s.0 u.0,
      and_from (within r.0) (list_all within t.0) s.1 u.1,
    )))

  complete : (p : Place) (as' : List A) (q : Place) → Stand (flat_map pieces as') p q → IsTrue (list_all within as') → Ends q.bytes →
      repeat test item p ≡ Some (as', q)
  complete p [] q s good ends =
      repeat_end test item p (subst (λ (x : Place). test x.bytes ≡ false) (sym s) (stops q.bytes ends).0)
      ∙ ap (λ (x : Place). Some ([], x)) s
  complete p (a ∷ as') q s good ends =
      let parts = stand_split (pieces a) (flat_map pieces as') p q s in
      let both = and_parts (within a) (list_all within as') good in
      let next = before_many as' parts.0 q parts.2 both.1 ends in
      repeat_more test item shrinks p a parts.0 (starts a p parts.0 parts.1 both.0 next).0 (h.complete p a parts.0 parts.1 both.0 next)
      ∙ ap (with_first a) (complete parts.0 as' q parts.2 both.1 ends)

  pub repeat_reads : Reads (repeat test item) (flat_map pieces) (list_all within) Ends
  unfolding repeat
  repeat_reads = record { sound = λ p. sound (suc (length p.bytes)) p; complete = complete }
