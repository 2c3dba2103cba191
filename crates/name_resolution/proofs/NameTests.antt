-- Whether a text is that of a name, where names are added one by one.
use Rattle.std.proofs.Common.{◌≡◌, ℕ, ◌+◌, ◌<◌, Bool, true, false, cond, List, [], ◌∷◌, ◌++◌, map, length, get_or, take, refl, ap, sym, ◌∙◌}
use Rattle.std.specs.Prelude.{◌&&◌, ◌||◌, Option, Some, None}
use Rattle.std.specs.List.{list_any, position_from}
use Rattle.std.specs.Option.{is_some}
use Rattle.std.specs.Str.{bytes_eq}
use Rattle.std.specs.Borrow.{Bor}
use Rattle.std.proofs.Math.Bool.{or-false, or-true}
use Rattle.std.proofs.lemmas.Iterator.Adapters.{position_from-zero}
use Rattle.std.proofs.lemmas.List.{map_push, take_more}
use Rattle.std.proofs.lemmas.List.Folds.{list_any-append}
use Rattle.base_library.proofs.Bytes.{same_bytes}
use Rattle.tsl_terms.specs.Name.{Name, number_of, texts}
use Rattle.tsl_terms.specs.Clashes.{added_unless_found, with_use}
use Rattle.name_resolution.specs.Heads.{is_name, is_among}
use Rattle.name_resolution.specs.Occurrences.{is_repeated}

pub any_from : {X : Type 0} (p : X → Bool) (i : ℕ) (xs : List X) → is_some (position_from p i xs) ≡ list_any p xs
any_from p i [] = refl
any_from p i (x ∷ xs) = by (p x) (any_from p (i + 1) xs) where
  by : (b : Bool) → is_some (position_from p (i + 1) xs) ≡ list_any p xs →
      is_some (cond b (Some i) (position_from p (i + 1) xs)) ≡ (b || list_any p xs)
  by true h = refl
  by false h = h

-- a text is that of a name where it is among the names' texts
pub is_name_any : (names : List Name) (x : List ℕ) → is_name names x ≡ is_among (texts names) x
is_name_any names x = ap is_some (position_from-zero (bytes_eq x) (texts names)) ∙ any_from (bytes_eq x) 0 (texts names)

pub among_pushed : (xs : List (List ℕ)) (y x : List ℕ) → is_among (xs ++ y ∷ []) x ≡ (is_among xs x || bytes_eq x y)
among_pushed xs y x = list_any-append (bytes_eq x) xs (y ∷ []) ∙ ap (λ b. is_among xs x || b) (or-false (bytes_eq x y))

name_pushed : (names : List Name) (n : Name) (x : List ℕ) → is_name (names ++ n ∷ []) x ≡ (is_name names x || bytes_eq x n.text)
name_pushed names n x =
    is_name_any (names ++ n ∷ []) x ∙ ap (λ ts. is_among ts x) (map_push (λ m. m.text) names n) ∙ among_pushed (texts names) n.text x
    ∙ ap (λ b. b || bytes_eq x n.text) (sym (is_name_any names x))

-- a text that is that of a name stays so, and no other is
pub known : (names : List Name) (p x : List ℕ) → is_name names p ≡ true → is_name names x ≡ (is_name names x || bytes_eq x p)
known names p x h = by (bytes_eq x p) refl where
  by : (b : Bool) → bytes_eq x p ≡ b → is_name names x ≡ (is_name names x || b)
  by false e = sym (or-false (is_name names x))
  by true e = ap (is_name names) (same_bytes x p e) ∙ h ∙ sym (or-true (is_name names x))

name_added_as : (names : List Name) (n : Name) (x : List ℕ) (found : Option ℕ) → number_of names n.text ≡ found →
    is_name (added_unless_found names n found) x ≡ (is_name names x || bytes_eq x n.text)
name_added_as names n x None e = name_pushed names n x
name_added_as names n x (Some k) e = known names n.text x (ap is_some e)

pub name_added : (names : List Name) (n : Name) (x : List ℕ) → is_name (with_use names n) x ≡ (is_name names x || bytes_eq x n.text)
name_added names n x = name_added_as names n x (number_of names n.text) refl

pub when_found : (names : List Name) (p x : List ℕ) → is_name names p ≡ true → (bytes_eq x p && is_name names x) ≡ bytes_eq x p
when_found names p x h = by (bytes_eq x p) refl where
  by : (b : Bool) → bytes_eq x p ≡ b → (b && is_name names x) ≡ b
  by false e = refl
  by true e = ap (is_name names) (same_bytes x p e) ∙ h

pub when_absent : (names : List Name) (p x : List ℕ) → is_name names p ≡ false → (bytes_eq x p && is_name names x) ≡ false
when_absent names p x h = by (bytes_eq x p) refl where
  by : (b : Bool) → bytes_eq x p ≡ b → (b && is_name names x) ≡ false
  by false e = refl
  by true e = ap (is_name names) (same_bytes x p e) ∙ h

-- ---- parameters, one by one

repeated_step : (a m b r : Bool) → ((a && (m || b)) || (r || (b && m))) ≡ (((a && m) || r) || (b && (a || m)))
repeated_step true true true true = refl
repeated_step true true true false = refl
repeated_step true true false true = refl
repeated_step true true false false = refl
repeated_step true false true true = refl
repeated_step true false true false = refl
repeated_step true false false true = refl
repeated_step true false false false = refl
repeated_step false true true true = refl
repeated_step false true true false = refl
repeated_step false true false true = refl
repeated_step false true false false = refl
repeated_step false false true true = refl
repeated_step false false true false = refl
repeated_step false false false true = refl
repeated_step false false false false = refl

no_parameter_before : (b : Bool) → ((b && false) || false) ≡ (false || (b && false))
no_parameter_before true = refl
no_parameter_before false = refl

pub repeated_pushed : (ps : List (List ℕ)) (q x : List ℕ) →
    is_repeated (ps ++ q ∷ []) x ≡ (is_repeated ps x || (bytes_eq x q && is_among ps x))
repeated_pushed [] q x = no_parameter_before (bytes_eq x q)
repeated_pushed (p ∷ ps) q x =
    (λ i. (bytes_eq x p && among_pushed ps q x i) || repeated_pushed ps q x i)
    ∙ repeated_step (bytes_eq x p) (is_among ps x) (bytes_eq x q) (is_repeated ps x)

-- the texts of one parameter more
texts_more : (ps : List (Bor (List ℕ))) (i : ℕ) (d : Bor (List ℕ)) → i < length ps →
    map (λ p. p.now) (take (i + 1) ps) ≡ map (λ p. p.now) (take i ps) ++ (get_or ps i d).now ∷ []
texts_more ps i d within = ap (map (λ p. p.now)) (take_more ps i d within) ∙ map_push (λ p. p.now) (take i ps) (get_or ps i d)

pub among_more : (old new : List Name) (ps : List (Bor (List ℕ))) (i : ℕ) (d : Bor (List ℕ)) → i < length ps →
    ((x : List ℕ) → is_name old x ≡ is_among (map (λ p. p.now) (take i ps)) x) →
    ((x : List ℕ) → is_name new x ≡ (is_name old x || bytes_eq x (get_or ps i d).now)) →
    (x : List ℕ) → is_name new x ≡ is_among (map (λ p. p.now) (take (i + 1) ps)) x
among_more old new ps i d within so_far more x =
    more x ∙ ap (λ b. b || bytes_eq x (get_or ps i d).now) (so_far x)
    ∙ sym (among_pushed (map (λ p. p.now) (take i ps)) (get_or ps i d).now x)
    ∙ ap (λ ts. is_among ts x) (sym (texts_more ps i d within))

pub repeated_more : (names old new : List Name) (ps : List (Bor (List ℕ))) (i : ℕ) (d : Bor (List ℕ)) → i < length ps →
    ((x : List ℕ) → is_name names x ≡ is_among (map (λ p. p.now) (take i ps)) x) →
    ((x : List ℕ) → is_name old x ≡ is_repeated (map (λ p. p.now) (take i ps)) x) →
    ((x : List ℕ) → is_name new x ≡ (is_name old x || (bytes_eq x (get_or ps i d).now && is_name names x))) →
    (x : List ℕ) → is_name new x ≡ is_repeated (map (λ p. p.now) (take (i + 1) ps)) x
repeated_more names old new ps i d within among so_far more x =
    more x ∙ (λ k. so_far x k || (bytes_eq x (get_or ps i d).now && among x k))
    ∙ sym (repeated_pushed (map (λ p. p.now) (take i ps)) (get_or ps i d).now x)
    ∙ ap (λ ts. is_repeated ts x) (sym (texts_more ps i d within))
