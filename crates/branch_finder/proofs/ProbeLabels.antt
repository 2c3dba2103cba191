-- Labels of predicate terms' arguments along a path: where they are equal, the window of the probes is congruent.
use Rattle.std.proofs.Common.{◌≡◌, ◌∙◌, ℕ, zero, suc, ◌+◌, ◌≤◌, List, [], ◌∷◌, length, take, drop, get_or, true}
use Rattle.std.proofs.Common.{Option, Some, None, slice_get, refl, sym, ap, subst, arith}
use Rattle.std.specs.Prelude.{◌↔◌, option_and_then}
use Rattle.std.specs.List.{AllByRecursion}
use Rattle.std.proofs.lemmas.Option.{none-some, same_Some, slice_get_within}
use Rattle.base_library.specs.Numbers.{is_among}
use Rattle.base_library.proofs.Each.{each_weaker}
use Rattle.base_library.proofs.Lists.{heads, tails, flat_map_agree}
use Rattle.base_library.proofs.Places.{slice_get_some}
use Rattle.tsl_terms.specs.TermTree.{TermTree, TermTrees, no_terms, more_terms, ProbeTree, terms_in, count_of_terms}
use Rattle.tsl_terms.specs.WindowTree.{ListedTree, EquatedTree}
use Rattle.tsl_terms.specs.FreeTree.{FreeTree}
use Rattle.tsl_terms.specs.Unfolding.{with_leaves, all_with_leaves, signal_unfolded, term_taken_by_cell, unfolded, all_unfolded}
use Rattle.tsl_terms.specs.OneClass.{PairTree, IsCongruence, AreInOneClass, AreInOneClasses, pair_of, listed_pairs}
use Rattle.tsl_terms.specs.Congruence.{IsCongruent, IsEquality, UpdateCells}
use Rattle.letter_space.specs.SpaceTree.{SpaceTree}
use Rattle.term_congruence.specs.Classes.{updated_signals, IsClassTable}
use Rattle.term_congruence.proofs.Cells.{unfolded_alike, all_unfolded_alike, own_signals}
use Rattle.branch_finder.specs.internal.Arguments.{arguments_of, start_of, ArePlaceLabels}
use Rattle.branch_finder.specs.internal.Paths.{updates_along, vector_at}
use Rattle.branch_finder.proofs.ArgumentLemmas.{argument_at}
use Rattle.branch_finder.proofs.PathUpdates.{own_updates}
use Rattle.branch_finder.specs.internal.Thinning.{IsOwn}

-- the updates of cells along a path are of these cells
pub updates_of_cells : (space : SpaceTree) (cells path : List ℕ) → UpdateCells cells (updates_along space.controlled cells 0 path)
updates_of_cells space cells path =
    each_weaker (IsOwn space cells (vector_at path) 0 (length path)) (λ u. is_among cells u.signal ≡ true) (λ u own. own.among)
    (updates_along space.controlled cells 0 path) (own_updates space cells path)

-- ---- sections of rows

section_after : (row : List ℕ) (m c a : ℕ) → slice_get row m ≡ Some a → take (suc c) (drop m row) ≡ a ∷ take c (drop (suc m) row)
section_after [] m c a at = absurd (none-some a at)
section_after (x ∷ row) zero c a at = ap (λ n. n ∷ take c row) (same_Some x a at)
section_after (x ∷ row) (suc m) c a at = section_after row m c a at

section_more : (row : List ℕ) (m c a : ℕ) → slice_get row m ≡ Some a → take (1 + c) (drop m row) ≡ a ∷ take c (drop (suc m) row)
section_more row m c a at = let same : 1 + c ≡ suc c = omega arith in ap (λ n. take n (drop m row)) same ∙ section_after row m c a at

none_is_some : (n : ℕ) (ns : List ℕ) → [] ≡ n ∷ ns → ⊥
none_is_some n ns e = cc

some_is_none : (n : ℕ) (ns : List ℕ) → n ∷ ns ≡ [] → ⊥
some_is_none n ns e = cc

-- all free terms in one class are a congruence
each_together : (pairs : List PairTree) → AllByRecursion (λ p. true ≡ true) pairs
each_together [] = tt
each_together (p ∷ ps) = (refl, each_together ps)

all_together : (pairs : List PairTree) → IsCongruence pairs (λ x y. true)
all_together pairs = record {
  itself = λ x. refl;
  turned = λ x y e. refl;
  through = λ x y z e f. refl;
  listed = each_together pairs;
  applications = λ f xs ys are. refl;
}

-- labels of terms at two steps, which are equal where what they unfold to is in one class
module _ (pairs : List PairTree) (terms : List TermTree) (at one_too : ℕ → FreeTree) (row row_too : List ℕ)
    (counted : length row ≡ length terms) (counted_too : length row_too ≡ length terms)
    (exact : (k l a b : ℕ) (x y : TermTree) → slice_get terms k ≡ Some x → slice_get terms l ≡ Some y → slice_get row k ≡ Some a →
    slice_get row_too l ≡ Some b → (a ≡ b) ↔ AreInOneClass pairs (with_leaves at x) (with_leaves one_too y)) where
  -- terms stand from a place on
  abbrev pub StandFrom : ℕ → TermTrees → Type 0
  StandFrom m ts = (k : ℕ) (t : TermTree) → slice_get (terms_in ts) k ≡ Some t → slice_get terms (m + k) ≡ Some t

  first_stands : (m : ℕ) (t : TermTree) (ts : TermTrees) → StandFrom m (more_terms t ts) → slice_get terms m ≡ Some t
  first_stands m t ts stand = subst (λ n. slice_get terms n ≡ Some t) (omega arith) (stand 0 t refl)

  rest_stand : (m : ℕ) (t : TermTree) (ts : TermTrees) → StandFrom m (more_terms t ts) → StandFrom (suc m) ts
  rest_stand m t ts stand k u there = subst (λ n. slice_get terms n ≡ Some u) (omega arith) (stand (suc k) u there)

  -- a row has a label for each term
  label_there : (ls : List ℕ) → length ls ≡ length terms → (m : ℕ) (t : TermTree) → slice_get terms m ≡ Some t →
      (a : ℕ) × (slice_get ls m ≡ Some a)
  label_there ls sized m t stands = slice_get_some ls m (omega (arith, slice_get_within terms m t stands, sized))

  section_starts : (ls : List ℕ) → length ls ≡ length terms → (m : ℕ) (t : TermTree) (ts : TermTrees) → StandFrom m (more_terms t ts) →
      (a : ℕ) × (slice_get ls m ≡ Some a) × (take (count_of_terms (more_terms t ts)) (drop m ls)
      ≡ a ∷ take (count_of_terms ts) (drop (suc m) ls))
  section_starts ls sized m t ts stand =
      let there = label_there ls sized m t (first_stands m t ts stand) in
      (there.0, there.1, section_more ls m (count_of_terms ts) there.0 there.1)

  pub one_by_labels : (ts us : TermTrees) (m n : ℕ) → StandFrom m ts → StandFrom n us →
      take (count_of_terms ts) (drop m row) ≡ take (count_of_terms us) (drop n row_too) →
      AreInOneClasses pairs (all_with_leaves at ts) (all_with_leaves one_too us)
  one_by_labels no_terms no_terms m n stand stand_too same R congruence = tt
  one_by_labels no_terms (more_terms u us) m n stand stand_too same R congruence =
      let right = section_starts row_too counted_too n u us stand_too in
      absurd (none_is_some right.0 (take (count_of_terms us) (drop (suc n) row_too)) (same ∙ right.2))
  one_by_labels (more_terms t ts) no_terms m n stand stand_too same R congruence =
      let left = section_starts row counted m t ts stand in
      absurd (some_is_none left.0 (take (count_of_terms ts) (drop (suc m) row)) (sym left.2 ∙ same))
  one_by_labels (more_terms t ts) (more_terms u us) m n stand stand_too same R congruence =
      let left = section_starts row counted m t ts stand in
      let right = section_starts row_too counted_too n u us stand_too in
      let both = sym left.2 ∙ same ∙ right.2 in (
        (exact m n left.0 right.0 t u (first_stands m t ts stand) (first_stands n u us stand_too) left.1 right.1).0
            (heads left.0 right.0 (take (count_of_terms ts) (drop (suc m) row)) (take (count_of_terms us) (drop (suc n) row_too)) both)
            R congruence,
        one_by_labels ts us (suc m) (suc n) (rest_stand m t ts stand) (rest_stand n u us stand_too)
            (tails left.0 right.0 (take (count_of_terms ts) (drop (suc m) row)) (take (count_of_terms us) (drop (suc n) row_too)) both)
            R congruence,
      )

  pub labels_by_one : (ts us : TermTrees) (m n : ℕ) → StandFrom m ts → StandFrom n us →
      AreInOneClasses pairs (all_with_leaves at ts) (all_with_leaves one_too us) →
      take (count_of_terms ts) (drop m row) ≡ take (count_of_terms us) (drop n row_too)
  labels_by_one no_terms no_terms m n stand stand_too one = refl
  labels_by_one no_terms (more_terms u us) m n stand stand_too one = absurd (one (λ x y. true) (all_together pairs))
  labels_by_one (more_terms t ts) no_terms m n stand stand_too one = absurd (one (λ x y. true) (all_together pairs))
  labels_by_one (more_terms t ts) (more_terms u us) m n stand stand_too one =
      let left = section_starts row counted m t ts stand in
      let right = section_starts row_too counted_too n u us stand_too in
      let first : left.0 ≡ right.0
      = (exact m n left.0 right.0 t u (first_stands m t ts stand) (first_stands n u us stand_too) left.1 right.1).1
      (λ R congruence. (one R congruence).0) in
      let rest = labels_by_one ts us (suc m) (suc n) (rest_stand m t ts stand) (rest_stand n u us stand_too)
      (λ R congruence. (one R congruence).1) in
      left.2 ∙ (λ i. first i ∷ rest i) ∙ sym right.2

-- the two labels of two arguments at one step
module _ (pairs : List PairTree) (terms : List TermTree) (at : ℕ → FreeTree) (row : List ℕ) (counted : length row ≡ length terms)
    (exact : (k l a b : ℕ) (x y : TermTree) → slice_get terms k ≡ Some x → slice_get terms l ≡ Some y → slice_get row k ≡ Some a →
    slice_get row l ≡ Some b → (a ≡ b) ↔ AreInOneClass pairs (with_leaves at x) (with_leaves at y)) where
  pub pair_by_labels : (ts : TermTrees) (m : ℕ) (labels : List ℕ) →
      StandFrom pairs terms at at row row counted counted exact m ts → count_of_terms ts ≡ 2 →
      labels ≡ take (count_of_terms ts) (drop m row) →
      (get_or labels 0 0 ≡ get_or labels 1 0) ↔ AllByRecursion (λ p. AreInOneClass pairs p.left p.right) (pair_of (all_with_leaves at ts))
  pair_by_labels no_terms m labels stand two is = absurd (omega (arith, two))
  pair_by_labels (more_terms x no_terms) m labels stand two is = absurd (omega (arith, two))
  pair_by_labels (more_terms x (more_terms y (more_terms z ts))) m labels stand two is = absurd (omega (arith, two))
  pair_by_labels (more_terms x (more_terms y no_terms)) m labels stand two is =
      let first = section_starts pairs terms at at row row counted counted exact row counted m x (more_terms y no_terms) stand in
      let rest = rest_stand pairs terms at at row row counted counted exact m x (more_terms y no_terms) stand in
      let second = section_starts pairs terms at at row row counted counted exact row counted (suc m) y no_terms rest in
      let whole : labels ≡ first.0 ∷ second.0 ∷ [] = is ∙ first.2 ∙ ap (λ (ls : List ℕ). first.0 ∷ ls) second.2 in
      let one = exact m (suc m) first.0 second.0 x y
      (first_stands pairs terms at at row row counted counted exact m x (more_terms y no_terms) stand)
      (first_stands pairs terms at at row row counted counted exact (suc m) y no_terms rest) first.1 second.1 in (
        λ same. (one.0 (sym (ap (λ ls. get_or ls 0 0) whole) ∙ same ∙ ap (λ ls. get_or ls 1 0) whole), tt),
        λ are. ap (λ ls. get_or ls 0 0) whole ∙ one.1 are.0 ∙ sym (ap (λ ls. get_or ls 1 0) whole),
      )

-- ---- windows along a path

module _ (cells : List ℕ) (updates : List ListedTree) (equalities : List EquatedTree) (of_cells : UpdateCells cells updates) where
  alike : (step : ℕ) (t : TermTree) → unfolded (updated_signals updates) updates step t ≡ unfolded cells updates step t
  alike step t =
      unfolded_alike (updated_signals updates) updates (own_signals updates) step t ∙ sym (unfolded_alike cells updates of_cells step t)

  all_alike : (step : ℕ) (ts : TermTrees) → all_unfolded (updated_signals updates) updates step ts ≡ all_unfolded cells updates step ts
  all_alike step ts =
      all_unfolded_alike (updated_signals updates) updates (own_signals updates) step ts
      ∙ sym (all_unfolded_alike cells updates of_cells step ts)

  pairs_alike : listed_pairs (updated_signals updates) updates equalities ≡ listed_pairs cells updates equalities
  pairs_alike =
      flat_map_agree (λ q. pair_of (all_unfolded (updated_signals updates) updates q.offset q.probe.arguments))
      (λ q. pair_of (all_unfolded cells updates q.offset q.probe.arguments)) (λ q. ap pair_of (all_alike q.offset q.probe.arguments))
      equalities

  one_alike : (i j : ℕ) (x y : TermTree) → AreInOneClass (listed_pairs (updated_signals updates) updates equalities)
      (unfolded (updated_signals updates) updates i x) (unfolded (updated_signals updates) updates j y)
      ≡ AreInOneClass (listed_pairs cells updates equalities) (unfolded cells updates i x) (unfolded cells updates j y)
  one_alike i j x y = λ k. AreInOneClass (pairs_alike k) (alike i x k) (alike j y k)

  module _ (probes : List ProbeTree) (last : ℕ) (rows : List (List ℕ))
      (table : IsClassTable (arguments_of probes) updates equalities last rows) where
    row_there : (step : ℕ) → step ≤ last → (row : List ℕ) × (slice_get rows step ≡ Some row)
    row_there step within = slice_get_some rows step (omega (arith, within, table.one_row_each))

    exact_in : (i j : ℕ) (row row_too : List ℕ) → slice_get rows i ≡ Some row → slice_get rows j ≡ Some row_too →
        (k l a b : ℕ) (x y : TermTree) → slice_get (arguments_of probes) k ≡ Some x → slice_get (arguments_of probes) l ≡ Some y →
        slice_get row k ≡ Some a → slice_get row_too l ≡ Some b →
        (a ≡ b) ↔ AreInOneClass (listed_pairs cells updates equalities) (unfolded cells updates i x) (unfolded cells updates j y)
    exact_in i j row row_too at at_too k l a b x y is_x is_y is_a is_b =
        subst (λ one. (a ≡ b) ↔ one) (one_alike i j x y)
        (table.exact i j k l a b x y is_x is_y (ap (option_and_then (λ (r : List ℕ). slice_get r k)) at ∙ is_a)
        (ap (option_and_then (λ (r : List ℕ). slice_get r l)) at_too ∙ is_b))

    pub congruent_by_labels : (equality : Option ℕ) → AllByRecursion (λ q. IsEquality equality q.probe) equalities →
        (i j k : ℕ) → j ≤ last → (ls ms : List ℕ) (left right : ProbeTree) → slice_get probes i ≡ Some left → slice_get probes k ≡ Some right →
        ArePlaceLabels probes rows j i ls → ArePlaceLabels probes rows last k ms →
        ((left.predicate ≡ right.predicate) × (ls ≡ ms)) ↔ IsCongruent cells equality
        (record { left = Some left; left_at = j; right = right; length = last; updates = updates; equalities = equalities })
    congruent_by_labels equality proper i j k within ls ms left right is_left is_right left_labels right_labels =
        let first = row_there j within in
        let second = row_there last (omega arith) in
        let sized = table.one_label_each j first.0 first.1 in
        let sized_too = table.one_label_each last second.0 second.1 in
        let exactly = exact_in j last first.0 second.0 first.1 second.1 in
        let pairs = listed_pairs cells updates equalities in
        let at = signal_unfolded (term_taken_by_cell cells updates) in
        let is_ls = left_labels left first.0 is_left first.1 in
        let is_ms = right_labels right second.0 is_right second.1 in (
          λ both. record {
            equalities = proper;
            sides = (
              both.0,
              one_by_labels pairs (arguments_of probes) (at j) (at last) first.0 second.0 sized sized_too exactly left.arguments
                  right.arguments
                  (start_of probes i) (start_of probes k) (argument_at probes i left is_left) (argument_at probes k right is_right)
                  (sym is_ls ∙ both.1 ∙ is_ms),
            );
          },
          λ is. (
            is.sides.0,
            is_ls ∙ labels_by_one pairs (arguments_of probes) (at j) (at last) first.0 second.0 sized sized_too exactly left.arguments
                right.arguments (start_of probes i) (start_of probes k) (argument_at probes i left is_left)
                (argument_at probes k right is_right)
                is.sides.1 ∙ sym is_ms,
          ),
        )

    pub alone_by_labels : (equality : Option ℕ) → AllByRecursion (λ q. IsEquality equality q.probe) equalities → (k : ℕ)
        (labels : List ℕ) (right : ProbeTree) → slice_get probes k ≡ Some right → IsEquality equality right →
        ArePlaceLabels probes rows last k labels →
        (get_or labels 0 0 ≡ get_or labels 1 0) ↔ IsCongruent cells equality
        (record { left = None; left_at = 0; right = right; length = last; updates = updates; equalities = equalities })
    alone_by_labels equality proper k labels right is_right is_equal are =
        let row = row_there last (omega arith) in
        let sized = table.one_label_each last row.0 row.1 in
        let both = pair_by_labels (listed_pairs cells updates equalities) (arguments_of probes)
        (signal_unfolded (term_taken_by_cell cells updates) last) row.0 sized (exact_in last last row.0 row.0 row.1 row.1) right.arguments
        (start_of probes k) labels (argument_at probes k right is_right) is_equal.two (are right row.0 is_right row.1) in (
          λ same. record { equalities = proper; sides = (is_equal, both.0 same) },
          λ is. both.1 is.sides.1,
        )
