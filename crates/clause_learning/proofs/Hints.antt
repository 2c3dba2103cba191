-- Hints lead to a false clause from the literals that an analysis has found.
use Rattle.std.proofs.Common.{◌≡◌, ℕ, zero, suc, ◌+◌, Bool, true, false, not, cond, ◌||◌, List, [], ◌∷◌, ◌++◌, map, take, Option, Some}
use Rattle.std.proofs.Common.{slice_get, sym, ap, ◌∙◌, refl, arith, eqb, inl, inr}
use Rattle.std.proofs.lemmas.Bool.{or_cases, or_left, or_right, cases_Bool, cases_eq, eq-eqb, ne_eqb, cond-true, cond-false}
use Rattle.std.proofs.lemmas.Bool.{false_from_ne_true}
use Rattle.base_library.proofs.Booleans.{same_tests}
use Rattle.base_library.proofs.Places.{slice_get-take, slice_get_one}
use Rattle.clause_core.specs.Literals.{Lit, negation, same, has}
use Rattle.clause_core.specs.Propagation.{not_false}
use Rattle.clause_core.proofs.Sets.{same_is, same_from, negation-negation, negation_differs, has-append}
use Rattle.sat_trail.specs.declared.entries.Entry.{Entry}
use Rattle.sat_trail.specs.Entries.{literals_of, place_of}
use Rattle.sat_trail.specs.States.{TrailState}
use Rattle.sat_trail.proofs.TrailSteps.{has_not_false, has_one}
use Rattle.sat_trail.proofs.Places.{AreApart, place_of_entry, has_entry, entry_has, one_entry}
use Rattle.refutation_check.specs.Checking.{numbered_from, clause_named, effect_of_open, effect_of_named, led_to, refused_hint}
use Rattle.refutation_check.specs.Checking.HintEffect.{makes, shows_nothing}
use Rattle.clause_learning.specs.ConflictAnalysis.{is_of_clause, Carries, Shows}
use Rattle.clause_learning.proofs.SeenEntries.{is_of_clause_has}

-- ---- clauses by the numbers of a log

named_from : (n : ℕ) (clauses : List (List Lit)) (r number : ℕ) → number ≡ n + r →
    clause_named (numbered_from n clauses) number ≡ slice_get clauses r
named_from n [] r number h = refl
named_from n (c ∷ cs) zero number h = cond-true (eqb n number) (Some c) (clause_named (numbered_from (suc n) cs) number)
    (eq-eqb n number (omega arith))
named_from n (c ∷ cs) (suc r) number h =
    cond-false (eqb n number) (Some c) (clause_named (numbered_from (suc n) cs) number) (ne_eqb n number (λ e. omega arith))
    ∙ named_from (suc n) cs r number (omega arith)

pub named_one : (clauses : List (List Lit)) (r : ℕ) → clause_named (numbered_from 1 clauses) (r + 1) ≡ slice_get clauses r
named_one clauses r = named_from 1 clauses r (r + 1) (omega arith)

-- ---- what is not false

pub not_false_same : (a b clause : List Lit) → ((l : Lit) → has clause l ≡ true → has a (negation l) ≡ has b (negation l)) →
    not_false a clause ≡ not_false b clause
not_false_same a b [] h = refl
not_false_same a b (x ∷ xs) h =
    ap (λ (t : Bool). cond (not t) (x ∷ not_false a xs) (not_false a xs)) (h x (or_left (same x x) (has xs x) (same_from x x refl)))
    ∙ ap (λ (ls : List Lit). cond (not (has b (negation x))) (x ∷ ls) ls)
    (not_false_same a b xs (λ l t. h l (or_right (same x l) (has xs l) t)))

pub has-map-negation : (xs : List Lit) (l : Lit) → has (map negation xs) l ≡ has xs (negation l)
has-map-negation [] l = refl
has-map-negation (x ∷ xs) l = each (same (negation x) l) (same x (negation l)) (has (map negation xs) l) (has xs (negation l))
    (same_tests (same (negation x) l) (same x (negation l)) (λ h. same_from x (negation l)
    (sym (negation-negation x) ∙ ap negation (same_is (negation x) l h)))
    (λ h. same_from (negation x) l (ap negation (same_is x (negation l) h) ∙ negation-negation l))) (has-map-negation xs l)
  where
    each : (a b c d : Bool) → a ≡ b → c ≡ d → (a || c) ≡ (b || d)
    each a b c d p q = ap (λ z. z || c) p ∙ ap (λ z. b || z) q

pub has_without : (xs : List Lit) (x l : Lit) → same x l ≡ false → has xs l ≡ false → has (xs ++ x ∷ []) l ≡ false
has_without xs x l n h = has-append xs (x ∷ []) l ∙ (ap (λ b. b || (same x l || false)) h ∙ ap (λ b. b || false) n)

-- ---- entries that a clause is false by

pub false_by : (es : List Entry) → AreApart es → (clause : List Lit) (l : Lit) → has clause l ≡ true → (k : ℕ) (e : Entry) →
    slice_get es k ≡ Some e → e.literal ≡ negation l → is_of_clause es clause k ≡ true
false_by es apart clause l member k e at is = is_of_clause_has es clause l k member
    (ap (λ (z : Lit). place_of es z.index) (sym is) ∙ place_of_entry es k e (apart k e at) at)

-- the literals of two entries at different places are different
pub entries_differ : (es : List Entry) → AreApart es → (j k : ℕ) (d e : Entry) → slice_get es j ≡ Some d → slice_get es k ≡ Some e →
    (j ≡ k → ⊥) → same d.literal e.literal ≡ false
entries_differ es apart j k d e at_j at_k n =
    false_from_ne_true (same d.literal e.literal) (λ s. n (one_entry es apart j k d e at_j at_k
    (ap (λ (l : Lit). l.index) (same_is d.literal e.literal s))).0)

pub opposites_differ : (es : List Entry) → AreApart es → (j k : ℕ) (d e : Entry) → slice_get es j ≡ Some d → slice_get es k ≡ Some e →
    (j ≡ k → ⊥) → same (negation d.literal) (negation e.literal) ≡ false
opposites_differ es apart j k d e at_j at_k n =
    false_from_ne_true (same (negation d.literal) (negation e.literal))
    (λ s. n (one_entry es apart j k d e at_j at_k (ap (λ (l : Lit). l.index) (same_is (negation d.literal) (negation e.literal) s))).0)

-- ---- the hints of an analysis

-- a false clause ends the hints
pub shows_start : (t : TrailState) → AreApart t.entries → (clause : List Lit) (number n : ℕ) (ms : ℕ → Bool) →
    slice_get t.clauses number ≡ Some clause → not_false (literals_of t.entries) clause ≡ [] →
    ((k : ℕ) → is_of_clause t.entries clause k ≡ true → ms k ≡ true) → Shows t n ms [] ((number + 1) ∷ [])
shows_start t apart clause number n ms named is_false entries_seen trues carries position =
    let agree : not_false trues clause ≡ not_false (literals_of t.entries) clause =
    not_false_same trues (literals_of t.entries) clause (λ l member. same_tests (has trues (negation l))
    (has (literals_of t.entries) (negation l)) (carries.set_true (negation l)) (back l member)) in
    ap (λ (o : Option (List Lit)). led_to position (λ l. refused_hint (numbered_from 1 t.clauses) (l ∷ trues) (suc position) [])
    (effect_of_named trues o)) (named_one t.clauses number ∙ named)
    ∙ ap (λ (ls : List Lit). led_to position (λ l. refused_hint (numbered_from 1 t.clauses) (l ∷ trues) (suc position) [])
    (effect_of_open trues ls)) (agree ∙ is_false)
  where
    back : (l : Lit) → has clause l ≡ true → has (literals_of t.entries) (negation l) ≡ true → has trues (negation l) ≡ true
    back l member h =
        let r = has_entry t.entries (negation l) h in
        ap (has trues) (sym r.3) ∙ carries.entries_seen r.0 r.1 r.2 (entries_seen r.0 (false_by t.entries apart clause l member r.0 r.1 r.2 r.3))

pub shows_kept : (t : TrailState) → AreApart t.entries → (q : ℕ) (e : Entry) (ms ns : ℕ → Bool) (kept : List Lit) (hints : List ℕ) →
    slice_get t.entries q ≡ Some e → ((k : ℕ) → (k ≡ q → ⊥) → ms k ≡ true → ns k ≡ true) → Shows t (q + 1) ms kept hints →
    Shows t q ns (kept ++ negation e.literal ∷ []) hints
shows_kept t apart q e ms ns kept hints at others shows trues carries position = shows trues (record {
  set_true = carries.set_true;
  entries_seen = λ k d at_k m. elim (cases_eq k q) [
    | inl i ↦ (let d_is : d ≡ e = slice_get_one t.entries q d e (ap (slice_get t.entries) (sym i) ∙ at_k) at in
        ap (λ (x : Entry). has trues x.literal) d_is ∙ (carries.passed q e at (omega arith)
        ∙ (has-append kept (negation e.literal ∷ []) (negation e.literal)
        ∙ or_right (has kept (negation e.literal)) (has (negation e.literal ∷ []) (negation e.literal))
        (or_left (same (negation e.literal) (negation e.literal)) false (same_from (negation e.literal) (negation e.literal) refl)))))
    | inr n ↦ carries.entries_seen k d at_k (others k n m)
  ];
  passed = λ k d at_k below. carries.passed k d at_k (omega arith)
      ∙ (has-append kept (negation e.literal ∷ []) (negation d.literal)
      ∙ without (has kept (negation d.literal)) (same (negation e.literal) (negation d.literal))
      (opposites_differ t.entries apart q k e d at at_k (λ i. omega arith)));
}) position
  where
    without : (a b : Bool) → b ≡ false → (a || (b || false)) ≡ a
    without true b h = refl
    without false b h = ap (λ z. z || false) h

pub shows_replaced : (t : TrailState) → AreApart t.entries → (q : ℕ) (e : Entry) (reason : ℕ) (clause : List Lit) (ms ns : ℕ → Bool)
    (kept : List Lit) (hints : List ℕ) → slice_get t.entries q ≡ Some e → slice_get t.clauses reason ≡ Some clause →
    not_false (literals_of (take q t.entries)) clause ≡ e.literal ∷ [] → has kept (negation e.literal) ≡ false →
    ((k : ℕ) → (k ≡ q → ⊥) → ms k ≡ true → ns k ≡ true) → ((k : ℕ) → (k ≡ q → ⊥) → is_of_clause t.entries clause k ≡ true → ns k ≡ true) →
    Shows t (q + 1) ms kept hints → Shows t q ns kept ((reason + 1) ∷ hints)
shows_replaced t apart q e reason clause ms ns kept hints at named forced fresh others added shows trues carries position =
    let unit : not_false trues clause ≡ e.literal ∷ [] = not_false_same trues (literals_of (take q t.entries)) clause agree ∙ forced in
    let unset : has trues e.literal ≡ false = carries.passed q e at (omega arith) ∙ fresh in
    ap (λ (o : Option (List Lit)). led_to position later (effect_of_named trues o)) (named_one t.clauses reason ∙ named)
    ∙ (ap (λ (ls : List Lit). led_to position later (effect_of_open trues ls)) unit
    ∙ (ap (λ (b : Bool). led_to position later (cond b shows_nothing (makes e.literal))) unset
    ∙ shows (e.literal ∷ trues) more (suc position)))
  where
    later : Lit → Option ℕ
    later l = refused_hint (numbered_from 1 t.clauses) (l ∷ trues) (suc position) hints

    agree : (l : Lit) → has clause l ≡ true → has trues (negation l) ≡ has (literals_of (take q t.entries)) (negation l)
    agree l member = same_tests (has trues (negation l)) (has (literals_of (take q t.entries)) (negation l)) there back
      where
        there : has trues (negation l) ≡ true → has (literals_of (take q t.entries)) (negation l) ≡ true
        there h = elim (cases_Bool (has (literals_of (take q t.entries)) (negation l))) [
          | inl y ↦ y
          | inr n ↦ (let is : e.literal ≡ l = has_one e.literal l (ap (λ (ls : List Lit). has ls l) (sym forced)
              ∙ has_not_false (literals_of (take q t.entries)) clause l member n) in
              let r = has_entry t.entries (negation l) (carries.set_true (negation l) h) in
              let one = one_entry t.entries apart r.0 q r.1 e r.2 at (ap (λ (z : Lit). z.index) r.3 ∙ ap (λ (z : Lit). z.index) (sym is)) in
              absurd (negation_differs l (sym r.3 ∙ (ap (λ (x : Entry). x.literal) one.1 ∙ is))))
        ]

        back : has (literals_of (take q t.entries)) (negation l) ≡ true → has trues (negation l) ≡ true
        back h =
            let r = has_entry (take q t.entries) (negation l) h in
            let at_k = slice_get-take q t.entries r.0 r.1 r.2 in
            ap (has trues) (sym r.3) ∙ carries.entries_seen r.0 r.1 at_k.1 (added r.0 (λ i. omega (arith, at_k.0))
            (false_by t.entries apart clause l member r.0 r.1 at_k.1 r.3))

    more : Carries t.entries (q + 1) ms kept (e.literal ∷ trues)
    more = record {
      set_true = λ l h. elim (or_cases (same e.literal l) (has trues l) h) [
        | inl s ↦ entry_has t.entries q e l at (same_is e.literal l s)
        | inr s ↦ carries.set_true l s
      ];
      entries_seen = λ k d at_k m. elim (cases_eq k q) [
        | inl i ↦ (let d_is : d ≡ e = slice_get_one t.entries q d e (ap (slice_get t.entries) (sym i) ∙ at_k) at in
            or_left (same e.literal d.literal) (has trues d.literal) (same_from e.literal d.literal
            (ap (λ (x : Entry). x.literal) (sym d_is))))
        | inr n ↦ or_right (same e.literal d.literal) (has trues d.literal) (carries.entries_seen k d at_k (others k n m))
      ];
      passed = λ k d at_k below. ap (λ b. b || has trues d.literal) (entries_differ t.entries apart q k e d at at_k (λ i. omega arith))
          ∙ carries.passed k d at_k (omega arith);
    }
