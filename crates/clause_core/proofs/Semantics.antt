-- What unit propagation means for assignments, and that it goes no further than any quiet list.
use Rattle.std.proofs.Common.{◌≡◌, ℕ, zero, suc, Bool, true, false, not, cond, List, [], ◌∷◌, ◌++◌, map, sym, ap, ◌∙◌, subst, refl, arith}
use Rattle.std.proofs.Common.{inl, inr, Contains}
use Rattle.std.specs.List.{list_all}
use Rattle.std.proofs.lemmas.Bool.{true≢false, false≢true, or_cases, or_parts, or_left, or_right, cases_Bool, and_parts, and_from}
use Rattle.base_library.proofs.Passes.{passes_contained}
use Rattle.clause_core.specs.Literals.{Lit, negation, same, has}
use Rattle.clause_core.specs.Clauses.{is_true, meets, meets_all, Follows}
use Rattle.clause_core.specs.Propagation.{not_false, IsFalse, Reaches, SomeFalse, IsQuiet, HasReversePropagation, IsTrace, makes_true}
use Rattle.clause_core.specs.Propagation.Reaches.{done, turn}
use Rattle.clause_core.proofs.Sets.{same_is}

is_true-negation : (v : ℕ → Bool) (l : Lit) → is_true v (negation l) ≡ not (is_true v l)
is_true-negation v l = by_sign (v l.index) l.positive
  where
    by_sign : (t p : Bool) → cond (not p) t (not t) ≡ not (cond p t (not t))
    by_sign true true = refl
    by_sign true false = refl
    by_sign false true = refl
    by_sign false false = refl

-- a test that all of a list's literals pass, at one of them
pub all_has : (p : Lit → Bool) (xs : List Lit) (l : Lit) → list_all p xs ≡ true → has xs l ≡ true → p l ≡ true
all_has p [] l a h = absurd (false≢true h)
all_has p (x ∷ xs) l a h =
    let parts = and_parts (p x) (list_all p xs) a in
    elim (or_cases (same x l) (has xs l) h) [
      | inl e ↦ subst (λ (z : Lit). p z ≡ true) (same_is x l e) parts.0
      | inr t ↦ all_has p xs l parts.1 t
    ]

-- a clause that is met has a true literal among those that are not false
pub meets-not_false : (v : ℕ → Bool) (trues clause : List Lit) → makes_true v trues ≡ true → meets v clause ≡ true →
    meets v (not_false trues clause) ≡ true
meets-not_false v trues [] t m = absurd (false≢true m)
meets-not_false v trues (x ∷ xs) t m = by_test (has trues (negation x)) refl (λ k. meets-not_false v trues xs t k)
  where
    clash : has trues (negation x) ≡ true → is_true v x ≡ true → ⊥
    clash h e = true≢false (sym (all_has (is_true v) trues (negation x) t h) ∙ (is_true-negation v x ∙ ap not e))

    by_test : (b : Bool) → has trues (negation x) ≡ b → (meets v xs ≡ true → meets v (not_false trues xs) ≡ true) →
        meets v (cond (not b) (x ∷ not_false trues xs) (not_false trues xs)) ≡ true
    by_test true h rest = elim (or_cases (is_true v x) (meets v xs) m) [ inl e ↦ absurd (clash h e) | inr k ↦ rest k ]
    by_test false h rest = elim (or_cases (is_true v x) (meets v xs) m) [
      | inl e ↦ or_left (is_true v x) (meets v (not_false trues xs)) e
      | inr k ↦ or_right (is_true v x) (meets v (not_false trues xs))
          (rest k)
    ]

-- a false clause is not met
pub false_unmet : (v : ℕ → Bool) (trues clause : List Lit) → makes_true v trues ≡ true → IsFalse trues clause → meets v clause ≡ true → ⊥
false_unmet v trues clause t f m = false≢true (subst (λ (xs : List Lit). meets v xs ≡ true) f (meets-not_false v trues clause t m))

-- the one literal that is not false is true
pub unit_true : (v : ℕ → Bool) (trues clause : List Lit) (l : Lit) → makes_true v trues ≡ true → not_false trues clause ≡ l ∷ [] →
    meets v clause ≡ true → is_true v l ≡ true
unit_true v trues clause l t u m =
    elim (or_cases (is_true v l) false (subst (λ (xs : List Lit). meets v xs ≡ true) u (meets-not_false v trues clause t m))) [
      | inl e ↦ e
      | inr f ↦ absurd (false≢true f)
    ]

-- an assignment that meets the clauses and makes the first literals true makes those true that are reached
pub reached_true : (v : ℕ → Bool) (clauses : List (List Lit)) (start trues : List Lit) → meets_all v clauses ≡ true →
    Reaches clauses start trues → makes_true v start ≡ true → makes_true v trues ≡ true
reached_true v clauses start trues m done t = t
reached_true v clauses start trues m (turn {clause = clause} {l = l} in' unit later) t =
    reached_true v clauses (l ∷ start) trues m later (and_from (is_true v l) (makes_true v start)
    (unit_true v start clause l t unit.others_false (passes_contained (meets v) clauses clause m in')) t)

pub makes_true-negations : (v : ℕ → Bool) (clause : List Lit) → meets v clause ≡ false → makes_true v (map negation clause) ≡ true
makes_true-negations v [] m = refl
makes_true-negations v (x ∷ xs) m =
    let parts = or_parts (is_true v x) (meets v xs) m in
    and_from (is_true v (negation x)) (makes_true v (map negation xs)) (is_true-negation v x ∙ ap not parts.0)
    (makes_true-negations v xs parts.1)

pub reverse_follows : (clauses : List (List Lit)) (clause : List Lit) → HasReversePropagation clauses clause → Follows clauses clause
reverse_follows clauses clause r v m =
    elim (cases_Bool (meets v clause)) [
      | inl e ↦ e
      | inr f ↦ (let t = reached_true v clauses (map negation clause) r.0 m r.1 (makes_true-negations v clause f) in
          absurd (false_unmet v r.0 r.2.0 t r.2.2 (passes_contained (meets v) clauses r.2.0 m r.2.1)))
    ]

-- ---- the least set

-- a literal that is false stays false in a larger list
not_false-not_false : (small large clause : List Lit) → ((l : Lit) → has small l ≡ true → has large l ≡ true) →
    not_false large clause ≡ not_false large (not_false small clause)
not_false-not_false small large [] more = refl
not_false-not_false small large (x ∷ xs) more = by_test (has small (negation x)) refl (not_false-not_false small large xs more)
  where
    by_test : (b : Bool) → has small (negation x) ≡ b → not_false large xs ≡ not_false large (not_false small xs) →
        not_false large (x ∷ xs) ≡ not_false large (cond (not b) (x ∷ not_false small xs) (not_false small xs))
    by_test true h ih = ap (λ (t : Bool). cond (not t) (x ∷ not_false large xs) (not_false large xs)) (more (negation x) h) ∙ ih
    by_test false h ih = ap (λ (ls : List Lit). cond (not (has large (negation x))) (x ∷ ls) ls) ih

-- what was the one literal that is not false is true in a larger quiet list
unit_in_quiet : (clauses : List (List Lit)) (small large clause : List Lit) (l : Lit) →
    ((m : Lit) → has small m ≡ true → has large m ≡ true) → IsQuiet clauses large → Contains clauses clause →
    not_false small clause ≡ l ∷ [] → has large l ≡ true
unit_in_quiet clauses small large clause l more quiet in' u =
    let again : not_false large clause ≡ not_false large (l ∷ []) = not_false-not_false small large clause more ∙ ap (not_false large) u in
    elim (cases_Bool (has large l)) [
      | inl t ↦ t
      | inr f ↦ absurd (by_test (has large (negation l)) refl again f)
    ]
  where
    by_test : (b : Bool) → has large (negation l) ≡ b → not_false large clause ≡ not_false large (l ∷ []) → has large l ≡ false → ⊥
    by_test true h again f = quiet.none_false (clause, in', again ∙ ap (λ (t : Bool). cond (not t) (l ∷ []) []) h)
    by_test false h again f = quiet.none_unit clause l in' (record {
      others_false = again
          ∙ ap (λ (t : Bool). cond (not t) (l ∷ []) []) h;
      unassigned = f;
    })

cons_more : (l : Lit) (small large : List Lit) → has large l ≡ true → ((m : Lit) → has small m ≡ true → has large m ≡ true) → (m : Lit) →
    has (l ∷ small) m ≡ true → has large m ≡ true
cons_more l small large t more m h =
    elim (or_cases (same l m) (has small m) h) [
      | inl e ↦ subst (λ (z : Lit). has large z ≡ true) (same_is l m e) t
      | inr k ↦ more m k
    ]

pub reached_within : (clauses : List (List Lit)) (start trues large : List Lit) → Reaches clauses start trues →
    ((m : Lit) → has start m ≡ true → has large m ≡ true) → IsQuiet clauses large → (m : Lit) → has trues m ≡ true → has large m ≡ true
reached_within clauses start trues large done more quiet = more
reached_within clauses start trues large (turn {clause = clause} {l = l} in' unit later) more quiet =
    reached_within clauses (l ∷ start) trues large later (cons_more l start large
    (unit_in_quiet clauses start large clause l more quiet in' unit.others_false) more) quiet

pub none_false_within : (clauses : List (List Lit)) (small large : List Lit) → ((m : Lit) → has small m ≡ true → has large m ≡ true) →
    IsQuiet clauses large → SomeFalse clauses small → ⊥
none_false_within clauses small large more quiet (clause, in', f) =
    quiet.none_false (clause, in', not_false-not_false small large clause more ∙ ap (not_false large) f)

-- ---- traces

pub meets_all-append : (v : ℕ → Bool) (xs : List (List Lit)) (y : List Lit) → meets_all v xs ≡ true → meets v y ≡ true →
    meets_all v (xs ++ y ∷ []) ≡ true
meets_all-append v [] y a m = and_from (meets v y) true m refl
meets_all-append v (x ∷ xs) y a m =
    let parts = and_parts (meets v x) (meets_all v xs) a in
    and_from (meets v x) (meets_all v (xs ++ y ∷ [])) parts.0 (meets_all-append v xs y parts.1 m)

pub traced_follows : (variables : ℕ) (known clauses : List (List Lit)) → IsTrace variables known clauses → (clause : List Lit) →
    Contains clauses clause → Follows known clause
traced_follows n known [] t clause c = absurd (omega (arith, c.1))
traced_follows n known (x ∷ xs) t clause (zero, below, is) = subst (Follows known) is (reverse_follows known x t.0.found)
traced_follows n known (x ∷ xs) t clause (suc k, below, is) =
    let rest = traced_follows n (known ++ x ∷ []) xs t.1 clause (k, omega arith, is) in
    λ v m. rest v (meets_all-append v known x m (reverse_follows known x t.0.found v m))
