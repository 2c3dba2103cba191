-- The first row that passes a test, and rows in the order of the inputs.
use Rattle.std.proofs.Common.{◌≡◌, ◌∙◌, ℕ, zero, suc, ◌+◌, ◌<◌, ◌≤◌, ◌==◌, ◌^◌, Bool, true, false, cond, List, [], ◌∷◌, ◌++◌, length, map, take, drop, get_or}
use Rattle.std.proofs.Common.{Vec, Some, None, refl, sym, ap, subst, arith, inl, inr}
use Rattle.std.specs.Prelude.{slice_get, option_map, is_some, All, ◌⊎◌}
use Rattle.std.proofs.lemmas.List.Elements.{All-from_recursion, recursion_from_All}
use Rattle.base_library.proofs.Finds.{find_item_past, each_fails, find_neither}
use Rattle.base_library.proofs.Options.{none_is}
use Rattle.tsl_terms.specs.Value.{beside}
use Rattle.base_library.specs.Options.{all_there}
use Rattle.table_interp.specs.Inputs.{by_inputs, is_no_value}
use Rattle.std.specs.List.{find, AllByRecursion}
use Rattle.std.specs.declared.alloc.Global.{Global}
use Rattle.std.proofs.lemmas.Bool.{cases_lt, eqb-true}
use Rattle.std.proofs.lemmas.List.{length-map, map-append, take_more}
use Rattle.base_library.proofs.Each.{each_at, each_weaker, each_left, each_right}
use Rattle.std.proofs.lemmas.Option.{none-some, same_Some, slice_get-get_or, slice_get-map}
use Rattle.base_library.proofs.Booleans.{eqb_self}
use Rattle.entry_names.specs.Needed.{HasNoRepeat}
use Rattle.table_interp.specs.Inputs.{IsFirstAt}
use Rattle.table_syntax.specs.View.{numbers_view}
use Rattle.table_interp.proofs.Facts.{below_each}

abbrev Row : Type 0
Row = Vec ℕ Global

-- none of the rows so far passes
pub record NoneSoFar (test : List ℕ → Bool) (rows : List Row) (i : ℕ) : Type 0 where
  pub first : find test (numbers_view rows) ≡ find test (numbers_view (drop i rows))
  pub none : (k : ℕ) (x : List ℕ) → k < i → slice_get (numbers_view rows) k ≡ Some x → test x ≡ false

there : (rows : List Row) (i : ℕ) (row : Row) → i < length rows → row ≡ get_or rows i row → slice_get (numbers_view rows) i ≡ Some row.items
there rows i row within is =
    slice_get-map (λ r. r.items) rows i
    ∙ ap (option_map (λ r. r.items)) (slice_get-get_or rows i row within ∙ ap (λ r. Some r) (sym is))

pub none_more : (test : List ℕ → Bool) (rows : List Row) (i : ℕ) (row : Row) → i < length rows → row ≡ get_or rows i row →
    test row.items ≡ false → NoneSoFar test rows i → NoneSoFar test rows (i + 1)
none_more test rows i row within is fails h = record {
  first = h.first ∙ find_item_past (λ r. r.items) test rows i row within is fails;
  none = none;
} where
  none : (k : ℕ) (x : List ℕ) → k < i + 1 → slice_get (numbers_view rows) k ≡ Some x → test x ≡ false
  none k x less at = by (cases_lt k i) where
    by : (k < i) ⊎ (i ≤ k) → test x ≡ false
    by (inl before) = h.none k x before at
    by (inr after) =
        let same : k ≡ i = omega (arith, less, after) in
        let found : row.items ≡ x = same_Some row.items x (sym (there rows i row within is)
        ∙ ap (slice_get (numbers_view rows)) (sym same) ∙ at) in
        ap test (sym found) ∙ fails

-- ---- rows of the stem, and then of the cycle

module _ (test : List ℕ → Bool) where
  pub first_right : (xs ys : List (List ℕ)) (at : ℕ) → find test xs ≡ None → IsFirstAt test ys at →
      IsFirstAt test (xs ++ ys) (length xs + at)
  first_right [] ys at none h = record {
    member = h.member;
    there = ap (slice_get ys) (omega arith) ∙ h.there;
    passed = h.passed;
    none_before = λ i x less found. h.none_before i x (omega (arith, less)) found;
  }
  first_right (r ∷ xs) ys at none h = by (test r) refl (first_right xs ys at) none where
    by : (b : Bool) → test r ≡ b → (find test xs ≡ None → IsFirstAt test ys at → IsFirstAt test (xs ++ ys) (length xs + at)) →
        cond b (Some r) (find test xs) ≡ None → IsFirstAt test (r ∷ (xs ++ ys)) (length (r ∷ xs) + at)
    by true e further k = absurd cc
    by false e further k =
        let rest = further k h in
        let place : length (r ∷ xs) + at ≡ suc (length xs + at) = omega arith in
        rw place (record { member = rest.member; there = rest.there; passed = rest.passed; none_before = before rest }) where
          before : IsFirstAt test (xs ++ ys) (length xs + at) → (i : ℕ) (x : List ℕ) → i < suc (length xs + at) →
              slice_get (r ∷ (xs ++ ys)) i ≡ Some x → test x ≡ false
          before rest zero x less found = ap test (sym (same_Some r x found)) ∙ e
          before rest (suc i) x less found = rest.none_before i x (omega (arith, less)) found

  pub rows_right : (ls lc stem cycle : List Row) (at n : ℕ) → ls ≡ stem → lc ≡ cycle → n ≡ length ls → find test (numbers_view ls) ≡ None →
      IsFirstAt test (numbers_view lc) at → IsFirstAt test (numbers_view stem ++ numbers_view cycle) (n + at)
  rows_right ls lc stem cycle at n a b size none h =
      let many : n + at ≡ length (numbers_view ls) + at = ap (λ k. k + at) (size ∙ sym (length-map ls (λ r. r.items))) in
      subst (λ ss. IsFirstAt test (numbers_view ss ++ numbers_view cycle) (n + at)) a
      (subst (λ cs. IsFirstAt test (numbers_view ls ++ numbers_view cs) (n + at)) b
      (rw many (first_right (numbers_view ls) (numbers_view lc) at none h)))

  pub rows_neither : (ls lc stem cycle : List Row) → ls ≡ stem → lc ≡ cycle → find test (numbers_view ls) ≡ None →
      find test (numbers_view lc) ≡ None → find test (numbers_view stem ++ numbers_view cycle) ≡ None
  rows_neither ls lc stem cycle a b none also =
      ap (λ ss. find test (numbers_view ss ++ numbers_view cycle)) (sym a)
      ∙ ap (λ cs. find test (numbers_view ls ++ numbers_view cs)) (sym b) ∙ find_neither test (numbers_view ls) (numbers_view lc) none also

-- the first number that is no value stands in the row that was found
pub same_row : {B : Type 0} (f : List ℕ → B) (test : List ℕ → Bool) (rows : List (List ℕ)) (at : ℕ) (h : IsFirstAt test rows at)
    (r : List ℕ) → slice_get rows at ≡ Some r → f h.member ≡ f r
same_row f test rows at h r found = ap f (same_Some h.member r (sym h.there ∙ found))

-- ---- rows in the order of the inputs

-- what holds of each row
pub of_row : (P : List ℕ → Type 0) (rows : List Row) (i : ℕ) (row : Row) → i < length rows → row ≡ get_or rows i row →
    All P (numbers_view rows) → P row.items
of_row P rows i row within is all = each_at P (numbers_view rows) i row.items (recursion_from_All P (numbers_view rows) all)
    (there rows i row within is)

pub row_pushed : (order : List ℕ) (rows : List Row) (i : ℕ) (row : Row) (all : List (List ℕ)) (vs : List ℕ) → i < length rows →
    row ≡ get_or rows i row → map (λ v. Some v) vs ≡ map (slice_get row.items) order →
    map (λ r. map (λ v. Some v) r) all ≡ map (λ r. map (slice_get r) order) (numbers_view (take i rows)) →
    map (λ r. map (λ v. Some v) r) (all ++ vs ∷ []) ≡ map (λ r. map (slice_get r) order) (numbers_view (take (i + 1) rows))
row_pushed order rows i row all vs within is values h =
    map-append (λ r. map (λ v. Some v) r) all (vs ∷ []) ∙ ap (λ ys. ys ++ map (λ v. Some v) vs ∷ []) h
    ∙ ap (λ o. map (λ r. map (slice_get r) order) (numbers_view (take i rows)) ++ o ∷ []) values
    ∙ sym (map-append (λ r. map (slice_get r) order) (numbers_view (take i rows)) (row.items ∷ []))
    ∙ ap (map (λ r. map (slice_get r) order)) (sym (map-append (λ r. r.items) (take i rows) (row ∷ []))
    ∙ ap numbers_view (ap (λ r. take i rows ++ r ∷ []) is ∙ sym (take_more rows i row within)))

-- ---- the rows that are given

beside_at : (s : ℕ) (columns row : List ℕ) (p : ℕ) → slice_get columns p ≡ Some s → ((k : ℕ) → k < p → slice_get columns k ≡ Some s → ⊥) →
    beside s columns row ≡ slice_get row p
beside_at s [] row p at new = absurd (none-some s at)
beside_at s (c ∷ columns) [] p at new = refl
beside_at s (c ∷ columns) (v ∷ row) zero at new =
    let same : c ≡ s = same_Some c s at in
    rw (same, eqb_self s) refl
beside_at s (c ∷ columns) (v ∷ row) (suc p) at new =
    by (c == s) refl (beside_at s columns row p at (λ k less found. new (suc k) (omega (arith, less)) found)) where
      by : (b : Bool) → (c == s) ≡ b → beside s columns row ≡ slice_get row p → cond b (Some v) (beside s columns row) ≡ slice_get row p
      by true e rest = absurd (new zero (omega arith) (ap (λ n. Some n) (eqb-true c s e)))
      by false e rest = rest

module _ (numbers : List ℕ) (once : HasNoRepeat numbers) where
  besides : (order inputs row : List ℕ) → map (slice_get numbers) order ≡ map (λ s. Some s) inputs →
      map (λ s. beside s numbers row) inputs ≡ map (slice_get row) order
  besides [] [] row e = refl
  besides [] (s ∷ inputs) row e = absurd cc
  besides (p ∷ order) [] row e = absurd cc
  besides (p ∷ order) (s ∷ inputs) row e =
      let first : slice_get numbers p ≡ Some s = cc in
      let others : map (slice_get numbers) order ≡ map (λ t. Some t) inputs = cc in
      let here : beside s numbers row ≡ slice_get row p = beside_at s numbers row p first (λ k less found.
      once p (record { earlier = k; before = less; member = s; first = found; again = first })) in
      ap (λ o. o ∷ map (λ t. beside t numbers row) inputs) here ∙ ap (λ os. slice_get row p ∷ os) (besides order inputs row others)

  there_some : (vs : List ℕ) → all_there (map (λ v. Some v) vs) ≡ Some vs
  there_some [] = refl
  there_some (v ∷ vs) = ap (option_map (λ xs. v ∷ xs)) (there_some vs)

  pub rows_given : (order inputs : List ℕ) → map (slice_get numbers) order ≡ map (λ s. Some s) inputs → (rows all : List (List ℕ)) →
      map (λ r. map (λ v. Some v) r) all ≡ map (λ r. map (slice_get r) order) rows → all_there (map (by_inputs numbers inputs) rows)
      ≡ Some all
  rows_given order inputs stands [] [] e = refl
  rows_given order inputs stands [] (vs ∷ all) e = absurd cc
  rows_given order inputs stands (r ∷ rows) [] e = absurd cc
  rows_given order inputs stands (r ∷ rows) (vs ∷ all) e =
      let first : map (λ v. Some v) vs ≡ map (slice_get r) order = cc in
      let others : map (λ q. map (λ v. Some v) q) all ≡ map (λ q. map (slice_get q) order) rows = cc in
      let here : by_inputs numbers inputs r ≡ Some vs = ap all_there (besides order inputs r stands ∙ sym first) ∙ there_some vs in
      ap (λ o. all_there (o ∷ map (by_inputs numbers inputs) rows)) here
      ∙ ap (option_map (λ xs. vs ∷ xs)) (rows_given order inputs stands rows all others)

-- what the checks say of each row

pub rows_below : (domain : ℕ) (rows : List (List ℕ)) → find (λ r. is_some (find (is_no_value domain) r)) rows ≡ None →
    AllByRecursion (λ r. AllByRecursion (λ v. v < domain) r) rows
rows_below domain rows h =
    each_weaker (λ r. is_some (find (is_no_value domain) r) ≡ false) (λ r. AllByRecursion (λ v. v < domain) r)
    (λ r e. below_each domain r (none_is (find (is_no_value domain) r) e)) rows
    (each_fails (λ r. is_some (find (is_no_value domain) r)) rows h)

module _ (domain : ℕ) (low : domain < 2 ^ 32) (stem cycle : List (List ℕ))
    (h : find (λ r. is_some (find (is_no_value domain) r)) (stem ++ cycle) ≡ None) where
  all_small : AllByRecursion (λ r. All (λ v. v < 2 ^ 32) r) (stem ++ cycle)
  all_small =
      each_weaker (λ r. AllByRecursion (λ v. v < domain) r) (λ r. All (λ v. v < 2 ^ 32) r)
      (λ r each. All-from_recursion (λ v. v < 2 ^ 32) r
      (each_weaker (λ v. v < domain) (λ v. v < 2 ^ 32) (λ v less. omega (arith, low, less)) r each)) (stem ++ cycle)
      (rows_below domain (stem ++ cycle) h)

  pub stem_small : All (λ r. All (λ v. v < 2 ^ 32) r) stem
  stem_small = All-from_recursion _ stem (each_left _ stem cycle all_small)

  pub cycle_small : All (λ r. All (λ v. v < 2 ^ 32) r) cycle
  cycle_small = All-from_recursion _ cycle (each_right _ stem cycle all_small)
