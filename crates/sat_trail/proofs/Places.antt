-- Entries by their places and by their variables.
use Rattle.std.proofs.Common.{◌≡◌, ℕ, zero, suc, ◌+◌, ◌<◌, ◌≤◌, Bool, true, false, not, cond, ◌||◌, List, [], ◌∷◌, ◌++◌, length, set, map}
use Rattle.std.proofs.Common.{take, drop, get_or, Option, Some, None, slice_get, sym, ap, ◌∙◌, refl, arith, eqb, inl, inr, ◌⊎◌}
use Rattle.std.specs.List.{IsDistinct, AllByRecursion, list_any}
use Rattle.std.proofs.lemmas.Bool.{true≢false, false≢true, or_cases, or_left, or_right, or_from, cases_Bool, cases_eq, eqb-true, eqb-false}
use Rattle.std.proofs.lemmas.Bool.{eq-eqb, ne_eqb, false_from_ne_true, cond-true, cond-false}
use Rattle.std.proofs.lemmas.Option.{none-some, same_Some, slice_get_within, get_or_from_slice_get}
use Rattle.std.proofs.lemmas.List.{length-take-le, length-set, length-map}
use Rattle.std.proofs.lemmas.Map.Steps.{length-le_from_distinct_below}
use Rattle.base_library.proofs.Places.{split_at, slice_get-behind, slice_get_one, slice_get_set, slice_get_set_same}
use Rattle.sat_trail.specs.internal.Tables.{IsPlaceTable, AreTruths}
use Rattle.clause_core.specs.Literals.{Lit, negation, same, has, code_of}
use Rattle.clause_core.proofs.Sets.{same_is, same_from, code_one, code_within}
use Rattle.sat_trail.specs.declared.entries.Entry.{Entry}
use Rattle.sat_trail.specs.Entries.{literals_of, place_from, place_of, truth_of}

-- ---- the place of a variable

-- an entry of this variable stands at this place
pub record Stands (entries : List Entry) (place index : ℕ) : Type 0 where
  pub entry : Entry
  pub there : slice_get entries place ≡ Some entry
  pub is : entry.literal.index ≡ index

pub place_found : (n : ℕ) (es : List Entry) (i p : ℕ) → place_from n es i ≡ Some p → (k : ℕ) × (n + k ≡ p) × Stands es k i
place_found n [] i p h = absurd (none-some p h)
place_found n (e ∷ es) i p h = by_test (λ t. place_found (suc n) es i p t) (eqb e.literal.index i) refl h
  where
    by_test : (place_from (suc n) es i ≡ Some p → (k : ℕ) × (suc n + k ≡ p) × Stands es k i) → (b : Bool) → eqb e.literal.index i ≡ b →
        cond b (Some n) (place_from (suc n) es i) ≡ Some p → (k : ℕ) × (n + k ≡ p) × Stands (e ∷ es) k i
    by_test later true t h = let is : n ≡ p = same_Some n p h in
        (0, omega arith, record { entry = e; there = refl; is = eqb-true e.literal.index i t })
    by_test later false t h = let r = later h in (suc r.0, omega (arith, r.1), record { entry = r.2.entry; there = r.2.there; is = r.2.is })

pub place_from-after : (n : ℕ) (xs ys : List Entry) (i : ℕ) → place_from n xs i ≡ None →
    place_from n (xs ++ ys) i ≡ place_from (n + length xs) ys i
place_from-after n [] ys i h = ap (λ m. place_from m ys i) (omega arith)
place_from-after n (x ∷ xs) ys i h = by_test (place_from-after (suc n) xs ys i) (eqb x.literal.index i) h
  where
    by_test : (place_from (suc n) xs i ≡ None → place_from (suc n) (xs ++ ys) i ≡ place_from (suc n + length xs) ys i) → (b : Bool) →
        cond b (Some n) (place_from (suc n) xs i) ≡ None → cond b (Some n) (place_from (suc n) (xs ++ ys) i)
        ≡ place_from (n + suc (length xs)) ys i
    by_test later true h = absurd (none-some n (sym h))
    by_test later false h = later h ∙ ap (λ m. place_from m ys i) (omega arith)

pub place_from-front : (n : ℕ) (xs ys : List Entry) (i p : ℕ) → place_from n xs i ≡ Some p → place_from n (xs ++ ys) i ≡ Some p
place_from-front n [] ys i p h = absurd (none-some p h)
place_from-front n (x ∷ xs) ys i p h = by_test (place_from-front (suc n) xs ys i p) (eqb x.literal.index i) h
  where
    by_test : (place_from (suc n) xs i ≡ Some p → place_from (suc n) (xs ++ ys) i ≡ Some p) → (b : Bool) →
        cond b (Some n) (place_from (suc n) xs i) ≡ Some p → cond b (Some n) (place_from (suc n) (xs ++ ys) i) ≡ Some p
    by_test later true h = h
    by_test later false h = later h

pub place_here : (n : ℕ) (e : Entry) (es : List Entry) (i : ℕ) → e.literal.index ≡ i → place_from n (e ∷ es) i ≡ Some n
place_here n e es i h = cond-true (eqb e.literal.index i) (Some n) (place_from (suc n) es i) (eq-eqb e.literal.index i h)

pub place_elsewhere : (n : ℕ) (e : Entry) (es : List Entry) (i : ℕ) → (e.literal.index ≡ i → ⊥) →
    place_from n (e ∷ es) i ≡ place_from (suc n) es i
place_elsewhere n e es i h = cond-false (eqb e.literal.index i) (Some n) (place_from (suc n) es i) (ne_eqb e.literal.index i h)

-- no variable is set twice
abbrev pub AreApart : List Entry → Type 0
AreApart entries = (k : ℕ) (e : Entry) → slice_get entries k ≡ Some e → place_of (take k entries) e.literal.index ≡ None

pub place_of_entry : (es : List Entry) (k : ℕ) (e : Entry) → place_of (take k es) e.literal.index ≡ None → slice_get es k ≡ Some e →
    place_of es e.literal.index ≡ Some k
place_of_entry es k e unset at =
    ap (λ (xs : List Entry). place_of xs e.literal.index) (split_at es k e at)
    ∙ (place_from-after 0 (take k es) (e ∷ drop (suc k) es) e.literal.index unset
    ∙ (place_here (0 + length (take k es)) e (drop (suc k) es) e.literal.index refl
    ∙ ap Some (omega (arith, length-take-le k es (omega (arith, slice_get_within es k e at))))))

-- ---- the literals that are set

pub has_entry : (es : List Entry) (l : Lit) → has (literals_of es) l ≡ true →
    (k : ℕ) × (e : Entry) × (slice_get es k ≡ Some e) × (e.literal ≡ l)
has_entry [] l h = absurd (false≢true h)
has_entry (e ∷ es) l h =
    elim (or_cases (same e.literal l) (has (literals_of es) l) h) [
      | inl t ↦ (0, e, refl, same_is e.literal l t)
      | inr t ↦ (let r = has_entry es l t in (suc r.0, r.1, r.2, r.3))
    ]

pub entry_has : (es : List Entry) (k : ℕ) (e : Entry) (l : Lit) → slice_get es k ≡ Some e → e.literal ≡ l → has (literals_of es) l ≡ true
entry_has [] k e l h is = absurd (none-some e h)
entry_has (x ∷ es) zero e l h is = or_left (same x.literal l) (has (literals_of es) l)
    (same_from x.literal l (ap (λ (y : Entry). y.literal) (same_Some x e h) ∙ is))
entry_has (x ∷ es) (suc k) e l h is = or_right (same x.literal l) (has (literals_of es) l) (entry_has es k e l h is)

pub unset_has : (n : ℕ) (es : List Entry) (l : Lit) → place_from n es l.index ≡ None → has (literals_of es) l ≡ false
unset_has n [] l h = refl
unset_has n (e ∷ es) l h = by_test (unset_has (suc n) es l) (eqb e.literal.index l.index) refl h
  where
    by_test : (place_from (suc n) es l.index ≡ None → has (literals_of es) l ≡ false) → (b : Bool) → eqb e.literal.index l.index ≡ b →
        cond b (Some n) (place_from (suc n) es l.index) ≡ None → has (literals_of (e ∷ es)) l ≡ false
    by_test later true t h = absurd (none-some n (sym h))
    by_test later false t h = or_from (same e.literal l) (has (literals_of es) l)
        (false_from_ne_true (same e.literal l) (λ s. eqb-false e.literal.index l.index t
        (ap (λ (m : Lit). m.index) (same_is e.literal l s)))) (later h)

-- two literals of one variable are equal, or the first is the negation of the second
pub one_variable : (a b : Lit) → a.index ≡ b.index → (a ≡ b) ⊎ (a ≡ negation b)
one_variable a b e = by_sign a.index b.index e a.positive b.positive
  where
    by_sign : (i j : ℕ) → i ≡ j → (p q : Bool) → (◌≡◌ {A = Lit} (record { index = i; positive = p }) (record { index = j; positive = q }))
        ⊎ (◌≡◌ {A = Lit} (record { index = i; positive = p }) (record { index = j; positive = not q }))
    by_sign i j e true true = inl (ap (λ (k : ℕ). record { index = k; positive = true }) e)
    by_sign i j e true false = inr (ap (λ (k : ℕ). record { index = k; positive = true }) e)
    by_sign i j e false true = inr (ap (λ (k : ℕ). record { index = k; positive = false }) e)
    by_sign i j e false false = inl (ap (λ (k : ℕ). record { index = k; positive = false }) e)

-- a variable has one entry
pub one_entry : (es : List Entry) → AreApart es → (j k : ℕ) (d e : Entry) → slice_get es j ≡ Some d → slice_get es k ≡ Some e →
    d.literal.index ≡ e.literal.index → (j ≡ k) × (d ≡ e)
one_entry es apart j k d e at_j at_k i =
    let j_is : j ≡ k = same_Some j k (sym (place_of_entry es j d (apart j d at_j) at_j)
    ∙ (ap (place_of es) i ∙ place_of_entry es k e (apart k e at_k) at_k)) in
    (j_is, slice_get_one es j d e at_j (ap (slice_get es) j_is ∙ at_k))

pub value_unset : (es : List Entry) (l : Lit) → place_of es l.index ≡ None → truth_of es l ≡ None
value_unset es l h =
    cond-false (has (literals_of es) l) (Some true) (cond (has (literals_of es) (negation l)) (Some false) None) (unset_has 0 es l h)
    ∙ cond-false (has (literals_of es) (negation l)) (Some false) None (unset_has 0 es (negation l) h)

pub value_set : (es : List Entry) → AreApart es → (k : ℕ) (e : Entry) (l : Lit) → slice_get es k ≡ Some e → e.literal.index ≡ l.index →
    truth_of es l ≡ Some (same e.literal l)
value_set es apart k e l at is =
    elim (cases_Bool (same e.literal l)) [
      | inl t ↦ cond-true (has (literals_of es) l) (Some true) (cond (has (literals_of es) (negation l)) (Some false) None)
          (entry_has es k e l at (same_is e.literal l t)) ∙ ap Some (sym t)
      | inr f ↦ (let absent : has (literals_of es) l ≡ false = false_from_ne_true (has (literals_of es) l) (λ h. other f h) in
          cond-false (has (literals_of es) l) (Some true) (cond (has (literals_of es) (negation l)) (Some false) None) absent
          ∙ (cond-true (has (literals_of es) (negation l)) (Some false) None (entry_has es k e (negation l) at (turned f))
          ∙ ap Some (sym f)))
    ]
  where
    other : same e.literal l ≡ false → has (literals_of es) l ≡ true → ⊥
    other f h =
        let r = has_entry es l h in
        let one = one_entry es apart r.0 k r.1 e r.2 at (ap (λ (m : Lit). m.index) r.3 ∙ sym is) in
        true≢false (sym (same_from e.literal l (ap (λ (d : Entry). d.literal) (sym one.1) ∙ r.3)) ∙ f)

    turned : same e.literal l ≡ false → e.literal ≡ negation l
    turned f = elim (one_variable e.literal l is) [
      | inl t ↦ absurd (true≢false (sym (same_from e.literal l t) ∙ f))
      | inr t ↦ t
    ]

-- ---- how many entries there are

distinct_from : (n : ℕ) (es : List Entry) → ((k : ℕ) (e : Entry) → slice_get es k ≡ Some e →
    place_from n es e.literal.index ≡ Some (n + k)) → IsDistinct eqb (map (λ e. e.literal.index) es)
unfolding IsDistinct
distinct_from n [] h = tt
distinct_from n (x ∷ es) h = (
  others es (λ k e at. later k e at),
  distinct_from (suc n) es (λ k e at. sym (place_elsewhere n x es e.literal.index (later k e at))
      ∙ (h (suc k) e at ∙ ap Some (omega arith))),
)
  where
    later : (k : ℕ) (e : Entry) → slice_get es k ≡ Some e → x.literal.index ≡ e.literal.index → ⊥
    later k e at is =
        let p : n ≡ n + suc k = same_Some n (n + suc k) (sym (place_here n x es e.literal.index is) ∙ h (suc k) e at) in
        omega arith

    others : (ys : List Entry) → ((k : ℕ) (e : Entry) → slice_get ys k ≡ Some e → x.literal.index ≡ e.literal.index → ⊥) →
        AllByRecursion (λ y. eqb x.literal.index y ≡ false) (map (λ e. e.literal.index) ys)
    others [] f = tt
    others (y ∷ ys) f = (ne_eqb x.literal.index y.literal.index (f 0 y refl), others ys (λ k e at. f (suc k) e at))

indices_below : (es : List Entry) (n : ℕ) → ((k : ℕ) (e : Entry) → slice_get es k ≡ Some e → e.literal.index < n) → (q : ℕ) →
    list_any (eqb q) (map (λ e. e.literal.index) es) ≡ true → q < n
indices_below [] n h q t = absurd (false≢true t)
indices_below (e ∷ es) n h q t =
    elim (or_cases (eqb q e.literal.index) (list_any (eqb q) (map (λ e. e.literal.index) es)) t) [
      | inl s ↦ omega (arith, eqb-true q e.literal.index s, h 0 e refl)
      | inr s ↦ indices_below es n (λ k d at. h (suc k) d at) q s
    ]

pub few_entries : (es : List Entry) (n : ℕ) → AreApart es → ((k : ℕ) (e : Entry) → slice_get es k ≡ Some e → e.literal.index < n) →
    length es ≤ n
few_entries es n apart below =
    omega (
      arith,
      length-map es (λ (e : Entry). e.literal.index),
      length-le_from_distinct_below (map (λ e. e.literal.index) es) n
          (distinct_from 0 es (λ k e at. place_of_entry es k e (apart k e at) at ∙ ap Some (omega arith))) (indices_below es n below),
    )

-- ---- the table

pub table_at : (variables : ℕ) (places : List (Option ℕ)) (es : List Entry) (i : ℕ) (o : Option ℕ) → IsPlaceTable variables places es →
    i < variables → o ≡ get_or places i o → place_of es i ≡ o
table_at variables places es i o table below is = sym (is ∙ get_or_from_slice_get places i (place_of es i) o (table.each i below))

-- the places of other variables stay
place_kept : (es : List Entry) (e : Entry) (i : ℕ) → (i ≡ e.literal.index → ⊥) → place_of (es ++ e ∷ []) i ≡ place_of es i
place_kept es e i apart = by_place (place_of es i) refl
  where
    by_place : (o : Option ℕ) → place_of es i ≡ o → place_of (es ++ e ∷ []) i ≡ o
    by_place None is = place_from-after 0 es (e ∷ []) i is ∙ place_elsewhere (0 + length es) e [] i (λ h. apart (sym h))
    by_place (Some p) is = place_from-front 0 es (e ∷ []) i p is

pub table_push : (variables : ℕ) (places : List (Option ℕ)) (es : List Entry) (e : Entry) → IsPlaceTable variables places es →
    e.literal.index < variables → place_of es e.literal.index ≡ None →
    IsPlaceTable variables (set places e.literal.index (Some (length es))) (es ++ e ∷ [])
table_push variables places es e table below unset = record {
  all = length-set places e.literal.index (Some (length es)) ∙ table.all;
  each = λ i in'. elim (cases_eq i e.literal.index) [
    | inl is ↦ ap (slice_get (set places e.literal.index (Some (length es)))) is
        ∙ (slice_get_set_same places e.literal.index (Some (length es)) (omega (arith, table.all))
        ∙ ap Some (sym (ap (place_of (es ++ e ∷ [])) is ∙ (place_from-after 0 es (e ∷ []) e.literal.index unset
        ∙ (place_here (0 + length es) e [] e.literal.index refl ∙ ap Some (omega arith))))))
    | inr apart ↦ slice_get_set places e.literal.index i (Some (length es)) apart ∙ (table.each i in' ∙ ap Some (sym (place_kept es e i apart)))
  ];
}

pub table_pop : (variables : ℕ) (places : List (Option ℕ)) (es : List Entry) (e : Entry) → IsPlaceTable variables places (es ++ e ∷ []) →
    e.literal.index < variables → place_of es e.literal.index ≡ None → IsPlaceTable variables (set places e.literal.index None) es
table_pop variables places es e table below unset = record {
  all = length-set places e.literal.index None ∙ table.all;
  each = λ i in'. elim (cases_eq i e.literal.index) [
    | inl is ↦ ap (slice_get (set places e.literal.index None)) is
        ∙ (slice_get_set_same places e.literal.index None (omega (arith, table.all)) ∙ ap Some (sym (ap (place_of es) is ∙ unset)))
    | inr apart ↦ slice_get_set places e.literal.index i None apart ∙ (table.each i in' ∙ ap Some (place_kept es e i apart))
  ];
}

-- ---- the truths of literals

has_push : (es : List Entry) (e : Entry) (l : Lit) → same e.literal l ≡ false → has (literals_of (es ++ e ∷ [])) l ≡ has (literals_of es) l
has_push [] e l h = ap (λ b. b || false) h
has_push (x ∷ es) e l h = ap (λ b. same x.literal l || b) (has_push es e l h)

pub code_inside : (variables : ℕ) (truths : List Bool) (es : List Entry) (l : Lit) → AreTruths variables truths es → l.index < variables →
    code_of l < length truths
code_inside variables truths es l table below = omega (arith, table.all, code_within variables l below)

codes_apart : (l m : Lit) → (code_of l ≡ code_of m → ⊥) → same m l ≡ false
codes_apart l m apart = false_from_ne_true (same m l) (λ s. apart (ap code_of (sym (same_is m l s))))

pub truths_push : (variables : ℕ) (truths : List Bool) (es : List Entry) (e : Entry) → AreTruths variables truths es →
    e.literal.index < variables → AreTruths variables (set truths (code_of e.literal) true) (es ++ e ∷ [])
truths_push variables truths es e table below = record {
  all = length-set truths (code_of e.literal) true ∙ table.all;
  each = λ l in'. elim (cases_eq (code_of l) (code_of e.literal)) [
    | inl is ↦ ap (slice_get (set truths (code_of e.literal) true)) is
        ∙ (slice_get_set_same truths (code_of e.literal) true (code_inside variables truths es e.literal table below)
        ∙ ap Some (sym (entry_has (es ++ e ∷ []) (length es) e l (slice_get-behind es e []) (code_one e.literal l (sym is)))))
    | inr apart ↦ slice_get_set truths (code_of e.literal) (code_of l) true apart
        ∙ (table.each l in' ∙ ap Some (sym (has_push es e l (codes_apart l e.literal apart))))
  ];
}

pub truths_pop : (variables : ℕ) (truths : List Bool) (es : List Entry) (e : Entry) → AreTruths variables truths (es ++ e ∷ []) →
    e.literal.index < variables → place_of es e.literal.index ≡ None → AreTruths variables (set truths (code_of e.literal) false) es
truths_pop variables truths es e table below unset = record {
  all = length-set truths (code_of e.literal) false ∙ table.all;
  each = λ l in'. elim (cases_eq (code_of l) (code_of e.literal)) [
    | inl is ↦ ap (slice_get (set truths (code_of e.literal) false)) is
        ∙ (slice_get_set_same truths (code_of e.literal) false (code_inside variables truths (es ++ e ∷ []) e.literal table below)
        ∙ ap Some (sym (ap (has (literals_of es)) (sym (code_one e.literal l (sym is))) ∙ unset_has 0 es e.literal unset)))
    | inr apart ↦ slice_get_set truths (code_of e.literal) (code_of l) false apart
        ∙ (table.each l in' ∙ ap Some (has_push es e l (codes_apart l e.literal apart)))
  ];
}

-- what the table has at a literal's code
pub truth_at : (variables : ℕ) (truths : List Bool) (es : List Entry) (l : Lit) (code : ℕ) (b : Bool) → AreTruths variables truths es →
    l.index < variables → code ≡ code_of l → b ≡ get_or truths code b → b ≡ has (literals_of es) l
truth_at variables truths es l code b table below is read =
    read ∙ get_or_from_slice_get truths code (has (literals_of es) l) b (ap (slice_get truths) is ∙ table.each l below)
