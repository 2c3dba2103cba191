-- Inputs, cells and outputs: no signal is in two of the lists, each list rises, and what is read or updated is in them.
use Rattle.std.proofs.Common.{
  ◌≡◌,
  ℕ,
  zero,
  suc,
  ◌<◌,
  ◌≤◌,
  ◌==◌,
  Bool,
  true,
  false,
  not,
  cond,
  ◌&&◌,
  List,
  ◌∷◌,
  ◌++◌,
  length,
  Some,
  slice_get,
  Contains,
  inl,
  inr,
  refl,
  sym,
  ap,
  ◌∙◌,
  arith,
}
use Rattle.std.specs.List.{list_all, filter}
use Rattle.std.proofs.lemmas.List.Folds.{list_any-append}
use Rattle.std.proofs.lemmas.Bool.{and_parts, and_from, or_cases, or_left, or_right, not-true, cases_Bool}
use Rattle.std.proofs.Math.Bool.{and-false}
use Rattle.base_library.specs.Numbers.{is_among, IsDistinct, numbers_from}
use Rattle.base_library.proofs.Booleans.{eqb_self}
use Rattle.base_library.proofs.Numbers.{among_filter, among_numbers, apart_numbers, apart_filter, apart_append, distinct_from_apart}
use Rattle.base_library.proofs.Passes.{within_from_test, list_all_from_contained, passes_contained, list_any_contained}
use Rattle.tsl_terms.specs.declared.names.NameKind.TheVariants.{Signal}
use Rattle.tsl_terms.specs.Name.{Name, is_name}
use Rattle.tsl_terms.specs.TermTree.{TermTree, signal, apply, TermTrees, no_terms, more_terms}
use Rattle.tsl_terms.specs.FormulaTree.{Atom, test, update}
use Rattle.tsl_terms.specs.Atoms.{atoms}
use Rattle.tsl_terms.specs.OnlyThese.{reads_only, read_only, atom_reads_only, atom_updates_only}
use Rattle.tsl_terms.specs.SpecTree.{SpecTree, whole_formula}
use Rattle.tsl_terms.specs.Signals.{
  term_reads,
  some_term_reads,
  atom_reads,
  formula_reads,
  atom_updates,
  formula_updates,
  is_cell,
  is_output,
  is_input,
  name_numbers,
  inputs_of,
  cells_of,
  outputs_of,
}
use Rattle.tsl_terms.specs.WellFormed.{term_fits, terms_fit, is_usable_at, atom_fits}
use Rattle.tsl_terms.specs.Laws.{FormulasFit, IsRising}
use Rattle.tsl_terms.proofs.WholeAtoms.{whole_is_made_of}

-- numbers that pass a test, from a first one on, rise

not_below : (p : ℕ → Bool) (first count i m : ℕ) → slice_get (filter p (numbers_from first count)) i ≡ Some m → first ≤ m
not_below p first zero i m there = absurd cc
not_below p first (suc count) i m there = by (p first) i there (λ k is. not_below p (suc first) count k m is)
  where
    by : (b : Bool) (i : ℕ) →
        slice_get (cond b (first ∷ filter p (numbers_from (suc first) count)) (filter p (numbers_from (suc first) count))) i ≡ Some m →
        ((k : ℕ) → slice_get (filter p (numbers_from (suc first) count)) k ≡ Some m → suc first ≤ m) → first ≤ m
    by true zero there rest = let same : first ≡ m = cc in omega (arith, same)
    by true (suc i) there rest = omega (arith, rest i there)
    by false i there rest = omega (arith, rest i there)

pub numbers_rise : (p : ℕ → Bool) (first count : ℕ) → IsRising (filter p (numbers_from first count))
numbers_rise p first zero i j m n less at_i at_j = absurd cc
numbers_rise p first (suc count) i j m n less at_i at_j = by (numbers_rise p (suc first) count) (p first) i j less at_i at_j
  where
    by : IsRising (filter p (numbers_from (suc first) count)) → (b : Bool) (i j : ℕ) → i < j →
        slice_get (cond b (first ∷ filter p (numbers_from (suc first) count)) (filter p (numbers_from (suc first) count))) i ≡ Some m →
        slice_get (cond b (first ∷ filter p (numbers_from (suc first) count)) (filter p (numbers_from (suc first) count))) j ≡ Some n →
        m < n
    by rest true zero zero less at_i at_j = absurd (omega (arith, less))
    by rest true zero (suc j) less at_i at_j =
        let same : first ≡ m = cc in
        omega (arith, same, not_below p (suc first) count j n at_j)
    by rest true (suc i) zero less at_i at_j = absurd (omega (arith, less))
    by rest true (suc i) (suc j) less at_i at_j = rest i j m n (omega (arith, less)) at_i at_j
    by rest false i j less at_i at_j = rest i j m n less at_i at_j

-- what each signal that it reads is among, a term that fits reads only
module _ (names : List Name) (ids : List ℕ) where
  mutual
    reads_only_from : (t : TermTree) → term_fits names t ≡ true →
        ((r : ℕ) → is_name names r Signal 0 ≡ true → term_reads r t ≡ true → is_among ids r ≡ true) → reads_only ids t ≡ true
    reads_only_from (signal s) fits known = known s (and_parts (is_name names s Signal 0) (is_usable_at names s) fits).0 (eqb_self s)
    reads_only_from (apply f ts) fits known = read_only_from ts (and_parts _ (terms_fit names ts) fits).1 known

    read_only_from : (ts : TermTrees) → terms_fit names ts ≡ true →
        ((r : ℕ) → is_name names r Signal 0 ≡ true → some_term_reads r ts ≡ true → is_among ids r ≡ true) → read_only ids ts ≡ true
    read_only_from no_terms fits known = refl
    read_only_from (more_terms t ts) fits known =
        let parts = and_parts (term_fits names t) (terms_fit names ts) fits in
        and_from (reads_only ids t) (read_only ids ts)
        (reads_only_from t parts.0 (λ r named reads. known r named (or_left (term_reads r t) (some_term_reads r ts) reads)))
        (read_only_from ts parts.1 (λ r named reads. known r named (or_right (term_reads r t) (some_term_reads r ts) reads)))

  atom_reads_only_from : (a : Atom) → atom_fits names a ≡ true →
      ((r : ℕ) → is_name names r Signal 0 ≡ true → atom_reads r a ≡ true → is_among ids r ≡ true) → atom_reads_only ids a ≡ true
  atom_reads_only_from (test p) fits known =
      read_only_from p.arguments (and_parts _ (terms_fit names p.arguments) (and_parts _ _ (and_parts _ _ fits).0).0).1 known
  atom_reads_only_from (update s t) fits known =
      reads_only_from t (and_parts (term_fits names t) _ (and_parts _ _ fits).1).0 known

updated_is_named : (names : List Name) (s : ℕ) (t : TermTree) → atom_fits names (update s t) ≡ true → is_name names s Signal 0 ≡ true
updated_is_named names s t fits = (and_parts (is_name names s Signal 0) (is_usable_at names s) (and_parts _ _ fits).0).0

module _ (spec : SpecTree) where
  -- no signal is in two lists

  input_is_kept : (s : ℕ) → is_among (inputs_of spec) s ≡ true → formula_updates s (whole_formula spec) ≡ false
  input_is_kept s among =
      let passes = and_parts (is_among (name_numbers spec) s) (is_input spec s)
      (sym (among_filter (is_input spec) s (name_numbers spec)) ∙ among) in
      not-true (formula_updates s (whole_formula spec)) (and_parts (is_name spec.names s Signal 0) _ passes.1).1

  cell_is_read : (s : ℕ) → is_among (cells_of spec) s ≡ true → formula_reads s (whole_formula spec) ≡ true
  cell_is_read s among =
      let passes = and_parts (is_among (name_numbers spec) s) (is_cell spec s)
      (sym (among_filter (is_cell spec) s (name_numbers spec)) ∙ among) in
      (and_parts (formula_updates s (whole_formula spec)) (formula_reads s (whole_formula spec)) passes.1).1

  input_is_no_cell : (s : ℕ) → is_among (inputs_of spec) s ≡ true → is_among (cells_of spec) s ≡ false
  input_is_no_cell s among =
      among_filter (is_cell spec) s (name_numbers spec)
      ∙ ap (λ b. is_among (name_numbers spec) s && (b && formula_reads s (whole_formula spec))) (input_is_kept s among)
      ∙ and-false (is_among (name_numbers spec) s)

  read_is_no_output : (s : ℕ) → is_among (inputs_of spec ++ cells_of spec) s ≡ true → is_among (outputs_of spec) s ≡ false
  read_is_no_output s among =
      among_filter (is_output spec) s (name_numbers spec)
      ∙ ap (λ b. is_among (name_numbers spec) s && b)
      (elim (or_cases (is_among (inputs_of spec) s) (is_among (cells_of spec) s)
      (sym (list_any-append (λ r. r == s) (inputs_of spec) (cells_of spec)) ∙ among)) [
        | inl input ↦ ap (λ b. b && not (formula_reads s (whole_formula spec))) (input_is_kept s input)
        | inr cell ↦
            ap (λ b. formula_updates s (whole_formula spec) && not b) (cell_is_read s cell)
            ∙ and-false (formula_updates s (whole_formula spec))
      ])
      ∙ and-false (is_among (name_numbers spec) s)

  pub distinct_signals : IsDistinct ((inputs_of spec ++ cells_of spec) ++ outputs_of spec)
  distinct_signals =
      let apart = apart_numbers 0 (length spec.names) in
      distinct_from_apart ((inputs_of spec ++ cells_of spec) ++ outputs_of spec)
      (apart_append (inputs_of spec ++ cells_of spec) (outputs_of spec)
      (apart_append (inputs_of spec) (cells_of spec)
      (apart_filter (is_input spec) (name_numbers spec) apart) (apart_filter (is_cell spec) (name_numbers spec) apart) input_is_no_cell)
      (apart_filter (is_output spec) (name_numbers spec) apart) read_is_no_output)

  -- what is read or updated is in the lists

  named_number : (s : ℕ) → is_name spec.names s Signal 0 ≡ true → is_among (name_numbers spec) s ≡ true
  named_number s named = among_numbers 0 (length spec.names) s (omega arith) (omega (arith, within_from_test spec.names s _ named))

  pub read_is_input_or_cell : (s : ℕ) → is_name spec.names s Signal 0 ≡ true → formula_reads s (whole_formula spec) ≡ true →
      is_among (inputs_of spec ++ cells_of spec) s ≡ true
  read_is_input_or_cell s named reads =
      list_any-append (λ n. n == s) (inputs_of spec) (cells_of spec)
      ∙ elim (cases_Bool (formula_updates s (whole_formula spec))) [
        | inl updates ↦
            or_right (is_among (inputs_of spec) s) (is_among (cells_of spec) s)
            (among_filter (is_cell spec) s (name_numbers spec)
            ∙ and_from (is_among (name_numbers spec) s) (is_cell spec s) (named_number s named)
            (and_from (formula_updates s (whole_formula spec)) _ updates reads))
        | inr kept ↦
            or_left (is_among (inputs_of spec) s) (is_among (cells_of spec) s)
            (among_filter (is_input spec) s (name_numbers spec)
            ∙ and_from (is_among (name_numbers spec) s) (is_input spec s) (named_number s named)
            (and_from (is_name spec.names s Signal 0) _ named (ap not kept)))
      ]

  pub updated_is_cell_or_output : (s : ℕ) → is_name spec.names s Signal 0 ≡ true → formula_updates s (whole_formula spec) ≡ true →
      is_among (cells_of spec ++ outputs_of spec) s ≡ true
  updated_is_cell_or_output s named updates =
      list_any-append (λ n. n == s) (cells_of spec) (outputs_of spec)
      ∙ elim (cases_Bool (formula_reads s (whole_formula spec))) [
        | inl reads ↦
            or_left (is_among (cells_of spec) s) (is_among (outputs_of spec) s)
            (among_filter (is_cell spec) s (name_numbers spec)
            ∙ and_from (is_among (name_numbers spec) s) (is_cell spec s) (named_number s named)
            (and_from (formula_updates s (whole_formula spec)) _ updates reads))
        | inr unread ↦
            or_right (is_among (cells_of spec) s) (is_among (outputs_of spec) s)
            (among_filter (is_output spec) s (name_numbers spec)
            ∙ and_from (is_among (name_numbers spec) s) (is_output spec s) (named_number s named)
            (and_from (formula_updates s (whole_formula spec)) _ updates (ap not unread)))
      ]

  module _ (fit : FormulasFit spec) where
    atoms_fit : list_all (atom_fits spec.names) (atoms (whole_formula spec)) ≡ true
    atoms_fit = (and_parts (list_all (atom_fits spec.names) (atoms (whole_formula spec))) _
        (whole_is_made_of (atom_fits spec.names) spec fit)).0

    pub whole_reads : list_all (atom_reads_only (inputs_of spec ++ cells_of spec)) (atoms (whole_formula spec)) ≡ true
    whole_reads = list_all_from_contained (atom_reads_only (inputs_of spec ++ cells_of spec)) (atoms (whole_formula spec)) (λ a stands.
        atom_reads_only_from spec.names (inputs_of spec ++ cells_of spec) a
        (passes_contained (atom_fits spec.names) (atoms (whole_formula spec)) a atoms_fit stands)
        (λ r named reads. read_is_input_or_cell r named (list_any_contained (atom_reads r) (atoms (whole_formula spec)) a stands reads)))

    pub whole_updates : list_all (atom_updates_only (cells_of spec ++ outputs_of spec)) (atoms (whole_formula spec)) ≡ true
    whole_updates = list_all_from_contained (atom_updates_only (cells_of spec ++ outputs_of spec)) (atoms (whole_formula spec)) each
      where
        each : (a : Atom) → Contains (atoms (whole_formula spec)) a → atom_updates_only (cells_of spec ++ outputs_of spec) a ≡ true
        each (test p) stands = refl
        each (update s t) stands =
            updated_is_cell_or_output s
            (updated_is_named spec.names s t
            (passes_contained (atom_fits spec.names) (atoms (whole_formula spec)) (update s t) atoms_fit stands))
            (list_any_contained (atom_updates s) (atoms (whole_formula spec)) (update s t) stands (eqb_self s))
