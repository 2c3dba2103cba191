-- The circuit that the literals of a controller's letters and next states make.
use Rattle.std.proofs.Common.{◌≡◌, ◌∙◌, ℕ, ◌+◌, ◌*◌, ◌/◌, ◌%◌, ◌^◌, ◌<◌, Bool, true, false, cond, List, ◌∷◌, ◌++◌, length, map, None, nat_lt}
use Rattle.std.proofs.Common.{Some, slice_get, refl, sym, ap, subst, arith, if◌then◌else◌, ltb}
use Rattle.std.proofs.Math.Nat.{lt_of_mul-lt-mul_right, mod-lt}
use Rattle.std.proofs.lemmas.Nat.{pow_pos, pow-add, div-mul-add, mod-mul-add, mul-add-lt}
use Rattle.std.proofs.lemmas.Bool.{lt-ltb, ltb-true}
use Rattle.std.proofs.lemmas.List.{length-map}
use Rattle.std.proofs.lemmas.Option.{none-some, same_Some, slice_get_within}
use Rattle.base_library.proofs.Places.{slice_get_some, slice_get_mapped, slice_get_one}
use Rattle.ltl_formula.specs.Cubes.{has_bit}
use Rattle.letter_space.specs.SpaceTree.{SpaceTree, choice_count}
use Rattle.letter_space.specs.Letters.{valuation_count, letter_of}
use Rattle.machines.specs.MachineTree.{EntryTree, ControllerTree, IsController, controller_entry, cell_at}
use Rattle.circuits.specs.Circuits.{CircuitTree, IsCircuit, truth, with_gates, outputs_of, next_of}
use Rattle.controller_circuits.specs.Bits.{bits_from, binary_digits}
use Rattle.controller_circuits.specs.OfController.{AreDigitsFor, inputs_at, IsAlways, constant_literal, IsCircuitOf}
use Rattle.controller_circuits.specs.internal.Gates.{GatesTree, variables_so_far, value, Becomes}
use Rattle.controller_circuits.specs.internal.Joining.{AreGates}
use Rattle.controller_circuits.specs.internal.Tables.{AreOfWords, padded_state, padded_entry}
use Rattle.controller_circuits.proofs.DigitLemmas.{length-bits_from, bit_there, are_bits, bits_joined}
use Rattle.controller_circuits.proofs.GateLemmas.{stays_same}
use Rattle.controller_circuits.proofs.TableLemmas.{literals_stay}

-- cells of tables
pub within_table : {X : Type 0} (rows columns : ℕ) (cells : List X) (row column : ℕ) (x : X) → length cells ≡ rows * columns
    → cell_at columns cells row column ≡ Some x → (row < rows) × (column < columns)
within_table rows columns cells row column x size is = by (ltb column columns) refl is
  where
    by : (b : Bool) → ltb column columns ≡ b → cond b (slice_get cells (row * columns + column)) None ≡ Some x → (row < rows) ×
        (column < columns)
    by false outside at = absurd (none-some x at)
    by true inside at =
        let place : row * columns + column < length cells = slice_get_within cells (row * columns + column) x at in
        (lt_of_mul-lt-mul_right columns (omega (arith, place, size)), ltb-true column columns inside)

pub some_cell : {X : Type 0} (rows columns : ℕ) (cells : List X) (row column : ℕ) → length cells ≡ rows * columns
    → row < rows → column < columns → (x : X) × (cell_at columns cells row column ≡ Some x)
some_cell rows columns cells row column size in_rows in_columns =
    let there = slice_get_some cells (row * columns + column)
    (omega (arith, mul-add-lt row columns column rows in_rows in_columns, size, swapped)) in
    (there.0, ap (λ b. cond b (slice_get cells (row * columns + column)) None) (lt-ltb column columns in_columns) ∙ there.1)
  where
    swapped : columns * rows ≡ rows * columns
    swapped = grind arith

module _ (space : SpaceTree) (m : ControllerTree) (is : IsController m) (fits : m.valuations ≡ valuation_count space) where
  abbrev tests : ℕ
  tests = length space.predicates

  some_valuation : 0 < m.valuations
  some_valuation = omega (arith, pow_pos tests, fits)

  pub padded_there : (i : ℕ) → (e : EntryTree) × (padded_entry m i ≡ Some e)
  padded_there i = some_cell m.states m.valuations m.entries (padded_state m i) (i % m.valuations) is.has_entries
      (by (ltb (i / m.valuations) m.states) refl) (mod-lt i some_valuation)
    where
      by : (b : Bool) → ltb (i / m.valuations) m.states ≡ b → (if b then i / m.valuations else 0) < m.states
      by true inside = ltb-true (i / m.valuations) m.states inside
      by false outside = omega (arith, is.has_state)

  padded_at : (s v : ℕ) → s < m.states → v < m.valuations → padded_entry m (s * m.valuations + v) ≡ controller_entry m s v
  padded_at s v in_states in_valuations =
      let row : (s * m.valuations + v) / m.valuations ≡ s = div-mul-add s m.valuations v in_valuations in
      let column : (s * m.valuations + v) % m.valuations ≡ v = mod-mul-add s m.valuations v in_valuations in
      let inside : ltb s m.states ≡ true = lt-ltb s m.states in_states in
      let state : padded_state m (s * m.valuations + v) ≡ s =
      ap (λ r. if nat_lt r m.states then r else 0) row ∙ ap (λ b. if b then s else 0) inside in
      (λ i. controller_entry m (state i) (column i))

  module _ (count : ℕ) (enough : AreDigitsFor m.states count) (places : ℕ) (all : places ≡ 2 ^ (tests + count)) where
    -- a value for each place
    pub record AreWords (of : ℕ → EntryTree → ℕ) (words : List ℕ) : Type 0 where
      pub sized : length words ≡ places
      pub there : (i : ℕ) (e : EntryTree) → i < places → padded_entry m i ≡ Some e → slice_get words i ≡ Some (of (i % m.valuations) e)

    abbrev pub place_of : ℕ → ℕ → ℕ
    place_of s v = s * 2 ^ tests + v

    word_at : (of : ℕ → EntryTree → ℕ) (words : List ℕ) → AreWords of words → (s v : ℕ) (e : EntryTree) → controller_entry m s v ≡ Some e
        → slice_get words (place_of s v) ≡ Some (of v e)
    word_at of words are s v e at =
        let within = within_table m.states m.valuations m.entries s v e is.has_entries at in
        let column : (s * m.valuations + v) % m.valuations ≡ v = mod-mul-add s m.valuations v within.1 in
        let power : 2 ^ (tests + count) ≡ 2 ^ tests * 2 ^ count = pow-add 2 tests count in
        let below : s * m.valuations + v < m.valuations * 2 ^ count =
        mul-add-lt s m.valuations v (2 ^ count) (omega (arith, within.0, enough.enough)) within.1 in
        let product : m.valuations * 2 ^ count ≡ 2 ^ tests * 2 ^ count = ap (λ n. n * 2 ^ count) fits in
        ap (λ n. slice_get words (s * n + v)) (sym fits)
        ∙ are.there (s * m.valuations + v) e (omega (arith, below, product, power, all)) (padded_at s v within.0 within.1 ∙ at)
        ∙ ap (λ n. Some (of n e)) column

    -- what is the same at all entries is the same at all places
    always_words : (of : ℕ → EntryTree → ℕ) (words : List ℕ) → AreWords of words → (first width k : ℕ) (b : Bool) → k < width
        → IsAlways m (λ v e. slice_get (bits_from first width (of v e)) k) b
        → (i w : ℕ) → slice_get words i ≡ Some w → has_bit (first + k) w ≡ b
    always_words of words are first width k b within always i w at =
        let e = padded_there i in
        let below : i < places = omega (arith, slice_get_within words i w at, are.sized) in
        let same : of (i % m.valuations) e.0 ≡ w =
        slice_get_one words i (of (i % m.valuations) e.0) w (are.there i e.0 below e.1) at in
        ap (has_bit (first + k)) (sym same)
        ∙ same_Some (has_bit (first + k) (of (i % m.valuations) e.0)) b
        (sym (bit_there first width (of (i % m.valuations) e.0) k within) ∙ always (padded_state m i) (i % m.valuations) e.0 e.1)

    within_width : (of : ℕ → EntryTree → ℕ) (first width k : ℕ) (b : Bool)
        → IsAlways m (λ v e. slice_get (bits_from first width (of v e)) k) b → k < width
    within_width of first width k b always =
        let e = padded_there 0 in
        let at = always (padded_state m 0) (0 % m.valuations) e.0 e.1 in
        omega (
          arith,
          slice_get_within (bits_from first width (of (0 % m.valuations) e.0)) k b at,
          length-bits_from first width (of (0 % m.valuations) e.0),
        )

    constant : (of : ℕ → EntryTree → ℕ) (words : List ℕ) → AreWords of words → (old new : GatesTree) (first width : ℕ) (literals : List ℕ)
        → AreOfWords old new words first width literals → (k : ℕ) (b : Bool)
        → IsAlways m (λ v e. slice_get (bits_from first width (of v e)) k) b → slice_get literals k ≡ Some (constant_literal b)
    constant of words are old new first width literals made k b always =
        let within = within_width of first width k b always in
        let l = slice_get_some literals k (omega (arith, within, made.counted)) in
        l.1 ∙ ap Some (made.same k l.0 l.1 b (always_words of words are first width k b within always))

    -- what the literals mean in the end
    meant : (of : ℕ → EntryTree → ℕ) (words : List ℕ) → AreWords of words → (old new last : GatesTree) (first width : ℕ)
        (literals : List ℕ)
        → old.before ≡ tests + count → AreOfWords old new words first width literals → Becomes new last
        → (s v : ℕ) (e : EntryTree) → controller_entry m s v ≡ Some e
        → map (truth (with_gates (false ∷ (binary_digits tests v ++ binary_digits count s)) last.gates)) literals
        ≡ bits_from first width (of v e)
    meant of words are old new last first width literals before made later s v e at =
        let within = within_table m.states m.valuations m.entries s v e is.has_entries at in
        let bits = binary_digits old.before (place_of s v) in
        let joined : bits ≡ binary_digits tests v ++ binary_digits count s =
        ap (λ n. binary_digits n (place_of s v)) before ∙ bits_joined tests count tests s v (omega (arith, within.1, fits)) 0
        (omega arith) in
        let size : length bits ≡ new.before = length-bits_from 0 old.before (place_of s v) ∙ sym made.becomes.before in
        let each : (k : ℕ) (b : Bool) → slice_get (map (value last bits) literals) k ≡ Some b → b ≡ has_bit (first + k) (of v e) =
        (λ k b there.
        let l = slice_get_mapped (value last bits) literals k b there in
        sym l.2 ∙ later.keeps bits size l.0 (made.are_literals k l.0 l.1)
        ∙ made.means k l.0 l.1 (place_of s v) (of v e) (word_at of words are s v e at)) in
        ap (λ bs. map (truth (with_gates (false ∷ bs) last.gates)) literals) (sym joined)
        ∙ are_bits first (map (value last bits) literals) width (of v e) (length-map literals (value last bits) ∙ made.counted) each

    module _ (letters next : List ℕ) (letter_words : AreWords (λ v e. letter_of space v e.choices) letters)
        (next_words : AreWords (λ v e. e.next) next)
        (start mid last : GatesTree) (before : start.before ≡ tests + count) (outputs latches : List ℕ)
        (outputs_made : AreOfWords start mid letters tests (choice_count space.controlled) outputs)
        (latches_made : AreOfWords mid last next 0 count latches) where
      abbrev made : CircuitTree
      made = record { inputs = tests; latches = latches; outputs = outputs; gates = last.gates }

      pub is_circuit_of : IsCircuitOf space m made
      is_circuit_of = record {
        inputs = refl;
        latches = subst (AreDigitsFor m.states) (sym latches_made.counted) enough;
        steps = λ s v e at. (
          ap (λ n. outputs_of made (inputs_at space v) (binary_digits n s)) latches_made.counted
              ∙ meant (λ u f. letter_of space u f.choices) letters letter_words start mid last tests
              (choice_count space.controlled) outputs before
              outputs_made latches_made.becomes s v e at,
          ap (λ n. next_of made (inputs_at space v) (binary_digits n s)) latches_made.counted
              ∙ meant (λ u f. f.next) next next_words mid last last 0 count latches (outputs_made.becomes.before ∙ before)
              latches_made (stays_same last) s v e at
              ∙ ap (λ n. binary_digits n e.next) (sym latches_made.counted),
        );
        constant_outputs = λ k b always.
            constant (λ u f. letter_of space u f.choices) letters letter_words start mid tests
            (choice_count space.controlled) outputs outputs_made k b always;
        constant_next = λ k b always.
            constant (λ u f. f.next) next next_words mid last 0 count latches latches_made k b
            (λ s v e at. ap (λ n. slice_get (binary_digits n e.next) k) (sym latches_made.counted) ∙ always s v e at);
      }

      pub is_circuit : AreGates last.before last.gates → variables_so_far last < 2 ^ 31 → length outputs < 2 ^ 32 → IsCircuit made
      is_circuit gates few few_outputs =
          let all : last.before ≡ tests + length latches =
          latches_made.becomes.before ∙ outputs_made.becomes.before ∙ before ∙ ap (λ n. tests + n) (sym latches_made.counted) in
          record {
            latches = λ i l at. omega (arith, latches_made.are_literals i l at, all);
            outputs = λ i l at. omega (arith, literals_stay mid last outputs latches_made.becomes outputs_made.are_literals i l at, all);
            gates = λ k g at. (let p = gates k g at in (omega (arith, p.0, all), omega (arith, p.1, all)));
            few_variables = omega (arith, few, all);
            few_outputs = few_outputs;
          }
