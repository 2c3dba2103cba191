-- Rows of labels, and what is equal in them.
use Rattle.std.proofs.Common.{◌≡◌, ◌∙◌, ℕ, suc, ◌+◌, ◌<◌, ◌⊎◌, List, [], ◌∷◌, ◌++◌, length, Some, slice_get, refl, sym, ap, subst, inl, inr}
use Rattle.std.proofs.lemmas.List.{length_push}
use Rattle.std.proofs.lemmas.Option.{none-some, same_Some, option_and_then_some}
use Rattle.base_library.proofs.Places.{slice_get_push}
use Rattle.tsl_terms.specs.TermTree.{TermTree, terms_of}
use Rattle.tsl_terms.specs.WindowTree.{ListedTree}
use Rattle.tsl_terms.specs.Unfolding.{signal_unfolded, term_listed}
use Rattle.term_congruence.specs.Classes.{label_at, updated_signals, IsClassTable}
use Rattle.term_congruence.specs.internal.Shapes.{ShapeTree, IsLabelOf, AreLabelsOf, AreDifferent, KeepsShapes}
use Rattle.term_congruence.specs.internal.Shapes.{unfolded_by, all_unfolded_by}
use Rattle.term_congruence.proofs.Labels.{labels_kept, one_label, one_tree, label_there, as_many_labels}
use Rattle.term_congruence.proofs.Cells.{unfolded_alike, all_unfolded_alike, own_signals}
use Rattle.std.proofs.Common.{map, get_or, flat_map, arith}
use Rattle.std.specs.Prelude.{option_and_then}
use Rattle.std.specs.List.{AllByRecursion}
use Rattle.std.proofs.lemmas.List.{length-map}
use Rattle.base_library.proofs.Each.{each_from_places}
use Rattle.base_library.proofs.Places.{slice_get_mapped}
use Rattle.tsl_terms.specs.declared.window.Equated.{Equated}
use Rattle.tsl_terms.specs.FreeTree.{FreeTree}
use Rattle.tsl_terms.specs.Unfolding.{unfolded}
use Rattle.tsl_terms.specs.WindowTree.{EquatedTree, equated_tree}
use Rattle.tsl_terms.specs.OneClass.{PairTree, IsCongruence, AreInOneClass, pair_of, listed_pairs}
use Rattle.tsl_terms.proofs.SingleClasses.{one_class_is_one}
use Rattle.term_congruence.specs.internal.Rows.{AreStepRows}
use Rattle.term_congruence.specs.internal.Sides.{AreExactClasses, pairs_by}
use Rattle.term_congruence.proofs.StandingLemmas.{labels_within}

-- what is in one class stays there where the same pairs are listed
moved_class : {ps qs : List PairTree} {u v x y : FreeTree} → ps ≡ qs → u ≡ x → v ≡ y → AreInOneClass ps u v → AreInOneClass qs x y
moved_class pairs one two in_one R congruence =
    (λ i. R (sym one i) (sym two i)) ∙ in_one R (subst (λ p. IsCongruence p R) (sym pairs) congruence)

module _ (updates : List ListedTree) (terms : List TermTree) where
  pub no_rows : (shapes : List ShapeTree) → AreStepRows updates terms shapes [] 0
  no_rows shapes = record { counted = refl; each = λ step row at. absurd (none-some row at) }

  pub rows_kept : (old new : List ShapeTree) (rows : List (List ℕ)) (count : ℕ) → KeepsShapes old new →
      AreStepRows updates terms old rows count →
      AreStepRows updates terms new rows count
  rows_kept old new rows count keeps are = record {
    counted = are.counted;
    each = λ step row at. labels_kept old new keeps (all_unfolded_by updates step (terms_of terms)) row (are.each step row at);
  }

  pub one_row_more : (shapes : List ShapeTree) (rows longer : List (List ℕ)) (row : List ℕ) (step : ℕ) →
      AreLabelsOf shapes (all_unfolded_by updates step (terms_of terms)) row → longer ≡ rows ++ row ∷ [] →
      AreStepRows updates terms shapes rows step →
      AreStepRows updates terms shapes longer (step + 1)
  one_row_more shapes rows longer row step labels pushed are = record {
    counted = ap length pushed ∙ length_push rows row ∙ ap (λ n. n + 1) are.counted;
    each = λ i r at. by i r (slice_get_push rows row i r (sym (ap (λ rs. slice_get rs i) pushed) ∙ at));
  }
    where
      by : (i : ℕ) (r : List ℕ) → ((i < length rows) × (slice_get rows i ≡ Some r)) ⊎ ((i ≡ length rows) × (row ≡ r)) →
          AreLabelsOf shapes (all_unfolded_by updates i (terms_of terms)) r
      by i r (inl before) = are.each i r before.1
      by i r (inr last) =
          subst (λ k. AreLabelsOf shapes (all_unfolded_by updates k (terms_of terms)) r) (sym (last.0 ∙ are.counted))
          (subst (AreLabelsOf shapes (all_unfolded_by updates step (terms_of terms))) last.1 labels)

  module _ (shapes : List ShapeTree) (rows : List (List ℕ)) (count : ℕ) (are : AreStepRows updates terms shapes rows count) where
    -- the label of a term at a step
    labelled : (step k a : ℕ) (x : TermTree) → slice_get terms k ≡ Some x → label_at rows step k ≡ Some a →
        IsLabelOf shapes (unfolded_by updates step x) a
    labelled step k a x there is = option_and_then_some (λ row. slice_get row k) (slice_get rows step) a is (λ row at label.
        let found = label_there shapes (signal_unfolded (term_listed updates) step) terms row (are.each step row at) k x there in
        subst (IsLabelOf shapes (unfolded_by updates step x)) (same_Some found.0 a (sym found.1 ∙ label)) found.2)

  -- the labels of rows are labels
  pub rows_within : (shapes : List ShapeTree) (rows : List (List ℕ)) (count : ℕ) → AreStepRows updates terms shapes rows count →
      AllByRecursion (λ row. AllByRecursion (λ l. l < length shapes) row) rows
  rows_within shapes rows count are = each_from_places (λ row. AllByRecursion (λ l. l < length shapes) row) rows
      (λ step row at. labels_within shapes (all_unfolded_by updates step (terms_of terms)) row (are.each step row at))

  -- where the labels are, once their classes are read
  label_before : (classes : List ℕ) (rows : List (List ℕ)) (step k a : ℕ) →
      label_at (map (λ row. map (λ l. get_or classes l 0) row) rows) step k ≡ Some a →
      (n : ℕ) × (label_at rows step k ≡ Some n) × (get_or classes n 0 ≡ a)
  label_before classes rows step k a is =
      option_and_then_some (λ row. slice_get row k) (slice_get (map (λ row. map (λ l. get_or classes l 0) row) rows) step) a is
      (λ row at here.
      let old = slice_get_mapped (λ row. map (λ l. get_or classes l 0) row) rows step row at in
      let label = slice_get_mapped (λ l. get_or classes l 0) old.0 k a (subst (λ r. slice_get r k ≡ Some a) (sym old.2) here) in
      (label.0, ap (option_and_then (λ r. slice_get r k)) old.1 ∙ label.1, label.2))

  pub is_class_table : (shapes : List ShapeTree) (rows : List (List ℕ)) (last : ℕ) → AreStepRows updates terms shapes rows (suc last) →
      (equalities : List EquatedTree) (classes : List ℕ) → AreExactClasses shapes (pairs_by (term_listed updates) equalities) classes →
      IsClassTable terms updates equalities last (map (λ row. map (λ l. get_or classes l 0) row) rows)
  is_class_table shapes rows last are equalities classes exact = record {
    one_row_each = length-map rows (λ row. map (λ l. get_or classes l 0) row) ∙ are.counted;
    one_label_each = λ step row at.
        let old = slice_get_mapped (λ row. map (λ l. get_or classes l 0) row) rows step row at in
        ap length (sym old.2) ∙ length-map old.0 (λ l. get_or classes l 0)
        ∙ as_many_labels shapes (signal_unfolded (term_listed updates) step) terms old.0 (are.each step old.0 old.1);
    exact = λ i j k l a b x y at_x at_y at_a at_b.
        let m = label_before classes rows i k a at_a in
        let n = label_before classes rows j l b at_b in
        let first = labelled shapes rows (suc last) are i k m.0 x at_x m.1 in
        let second = labelled shapes rows (suc last) are j l n.0 y at_y n.1 in
        let one = unfolded_alike (updated_signals updates) updates (own_signals updates) i x in
        let two = unfolded_alike (updated_signals updates) updates (own_signals updates) j y in
        let listed : listed_pairs (updated_signals updates) updates equalities ≡ pairs_by (term_listed updates) equalities =
        λ z. flat_map (λ e. pair_of
        (all_unfolded_alike (updated_signals updates) updates (own_signals updates) e.offset e.probe.arguments z)) equalities in
        let exactly = exact.exact (unfolded_by updates i x) (unfolded_by updates j y) m.0 n.0 first second in (
          λ same. moved_class (sym listed) (sym one) (sym two) (exactly.1 (m.2 ∙ same ∙ sym n.2)),
          λ in_one. sym m.2 ∙ exactly.0 (moved_class listed one two in_one) ∙ n.2,
        );
  }

  -- where no equality is listed, labels are classes
  pub is_plain_table : (shapes : List ShapeTree) (rows : List (List ℕ)) (last : ℕ) → AreDifferent shapes →
      AreStepRows updates terms shapes rows (suc last) → (equalities : List Equated) → length equalities ≡ 0 →
      IsClassTable terms updates (map equated_tree equalities) last rows
  is_plain_table shapes rows last different are (e ∷ es) none = absurd (omega (arith, none))
  is_plain_table shapes rows last different are [] none = record {
    one_row_each = are.counted;
    one_label_each = λ step row at. as_many_labels shapes (signal_unfolded (term_listed updates) step) terms row (are.each step row at);
    exact = λ i j k l a b x y at_x at_y at_a at_b.
        let first = labelled shapes rows (suc last) are i k a x at_x at_a in
        let second = labelled shapes rows (suc last) are j l b y at_y at_b in
        let one = unfolded_alike (updated_signals updates) updates (own_signals updates) i x in
        let two = unfolded_alike (updated_signals updates) updates (own_signals updates) j y in
        let single = one_class_is_one (unfolded (updated_signals updates) updates i x) (unfolded (updated_signals updates) updates j y) in (
          λ same. single.1 (one ∙ one_tree shapes (unfolded_by updates i x) (unfolded_by updates j y) a first
              (subst (IsLabelOf shapes (unfolded_by updates j y)) (sym same) second) ∙ sym two),
          λ in_one. one_label shapes different (unfolded_by updates i x) a b first
              (subst (λ z. IsLabelOf shapes z b) (sym (sym one ∙ single.0 in_one ∙ two)) second),
        );
  }
