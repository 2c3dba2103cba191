-- A text that is read is that of the circuit that was found.
use Rattle.std.proofs.Common.{◌≡◌, ℕ, zero, suc, ◌+◌, ◌*◌, ◌^◌, ◌<◌, ◌≤◌, Bool, true, false, ◌&&◌, ltb, List, [], ◌∷◌, ◌++◌, length, map}
use Rattle.std.proofs.Common.{length-append, Option, Some, None, Ok, refl, sym, ap, subst, ◌∙◌, append_assoc, append-nil, arith}
use Rattle.std.proofs.Common.{slice_get}
use Rattle.std.specs.List.{list_all}
use Rattle.std.proofs.lemmas.Bool.{and_parts, and_from, ltb-true, ltb-false, lt-ltb}
use Rattle.std.proofs.lemmas.List.{map-append}
use Rattle.base_library.specs.Numbers.{numbers_from}
use Rattle.base_library.proofs.Numbers.{numbers_more}
use Rattle.base_library.proofs.Passes.{list_all_push, passes_at}
use Rattle.tsl_text.specs.Lines.{lines_from}
use Rattle.tsl_text.specs.Written.{text_of_lines}
use Rattle.line_formats.specs.Machine.{read_from, IsText}
use Rattle.line_formats.proofs.MachineLaws.{holds_after, read_is_text, says_written}
use Rattle.circuits.specs.Circuits.{GateTree, CircuitTree, IsCircuit, IsLiteral, variables}
use Rattle.circuit_text.specs.CircuitText.{input_line, latch_line, latch_lines, output_line, gate_line, gate_lines, circuit_lines}
use Rattle.circuit_text.specs.CircuitText.{circuit_text}
use Rattle.circuit_text.specs.internal.Lines.{Told, told_variables, State, unbegun, going, none_yet, fresh, is_literal, step, whole}
use Rattle.circuit_text.specs.internal.Lines.{first_left, is_no_line}
use Rattle.circuits.specs.GateView.{gate_tree}
use Rattle.circuits.specs.declared.gate.Gate.{Gate}
use Rattle.circuit_text.specs.declared.counts.Counts.{Counts}
use Rattle.circuit_text.specs.declared.reader.CircuitReader.{CircuitReader}
use Rattle.circuit_text.specs.internal.ReaderView.{circuit_so_far, state_from, reader_state}
use Rattle.circuit_text.proofs.CircuitLines.{told_header}
use Rattle.circuit_text.proofs.CircuitLines.{Added, input, latch, output, gate, added, begun}

-- ---- the gates, each after so many variables

abbrev pub gates_fit : ℕ → List GateTree → Bool
gates_fit before [] = true
gates_fit before (g ∷ gs) = (is_literal before g.left && is_literal before g.right) && gates_fit (before + 1) gs

gates_fit_push : (before own : ℕ) (gs : List GateTree) (g : GateTree) → before + length gs ≡ own → gates_fit before gs ≡ true →
    is_literal own g.left ≡ true → is_literal own g.right ≡ true → gates_fit before (gs ++ g ∷ []) ≡ true
gates_fit_push before own [] g e h left right =
    let same : own ≡ before = omega (arith, e) in
    and_from (is_literal before g.left && is_literal before g.right) true
    (and_from (is_literal before g.left) (is_literal before g.right) (ap (λ n. is_literal n g.left) (sym same) ∙ left)
    (ap (λ n. is_literal n g.right) (sym same) ∙ right)) refl
gates_fit_push before own (f ∷ gs) g e h left right =
    let parts = and_parts (is_literal before f.left && is_literal before f.right) (gates_fit (before + 1) gs) h in
    and_from (is_literal before f.left && is_literal before f.right) (gates_fit (before + 1) (gs ++ g ∷ [])) parts.0
    (gates_fit_push (before + 1) own gs g (omega (arith, e)) parts.1 left right)

gates_fit_at : (before : ℕ) (gs : List GateTree) (k own : ℕ) (g : GateTree) → gates_fit before gs ≡ true → before + k ≡ own →
    slice_get gs k ≡ Some g → IsLiteral own g.left × IsLiteral own g.right
gates_fit_at before [] k own g h e at = absurd cc
gates_fit_at before (f ∷ gs) zero own g h e at =
    let same : f ≡ g = cc in
    let number : before ≡ own = omega (arith, e) in
    let parts = and_parts (is_literal before f.left && is_literal before f.right) (gates_fit (before + 1) gs) h in
    let both = and_parts (is_literal before f.left) (is_literal before f.right) parts.0 in (
      subst (λ n. IsLiteral n g.left) number (subst (λ z. IsLiteral before z.left) same (ltb-true f.left (2 * (before + 1)) both.0)),
      subst (λ n. IsLiteral n g.right) number (subst (λ z. IsLiteral before z.right) same (ltb-true f.right (2 * (before + 1)) both.1)),
    )
gates_fit_at before (f ∷ gs) (suc k) own g h e at =
    let parts = and_parts (is_literal before f.left && is_literal before f.right) (gates_fit (before + 1) gs) h in
    gates_fit_at (before + 1) gs k own g parts.1 (omega (arith, e)) at

pub gates_fit_from : (before : ℕ) (gs : List GateTree) →
    ((k : ℕ) (g : GateTree) → slice_get gs k ≡ Some g → IsLiteral (before + k) g.left × IsLiteral (before + k) g.right) →
    gates_fit before gs ≡ true
gates_fit_from before [] at = refl
gates_fit_from before (g ∷ gs) at =
    let here = at 0 g refl in
    let own = 2 * (before + 1) in
    let left : g.left < own = omega (arith, here.0) in
    let right : g.right < own = omega (arith, here.1) in
    and_from (is_literal before g.left && is_literal before g.right) (gates_fit (before + 1) gs)
    (and_from (is_literal before g.left) (is_literal before g.right) (lt-ltb g.left own left) (lt-ltb g.right own right))
    (gates_fit_from (before + 1) gs (λ k f is.
    let there = at (suc k) f is in (omega (arith, there.0), omega (arith, there.1))))

-- ---- a part of a circuit with so many of each

abbrev pub told_of : CircuitTree → Told
told_of c = record { inputs = c.inputs; latches = length c.latches; outputs = length c.outputs; gates = length c.gates }

pub record IsPart (t : Told) (c : CircuitTree) : Type 0 where
  pub few : told_variables t < 2 ^ 31
  few_outputs : t.outputs < 2 ^ 32
  inputs : c.inputs ≤ t.inputs
  latches : length c.latches ≤ t.latches
  outputs : length c.outputs ≤ t.outputs
  gates : length c.gates ≤ t.gates
  -- what comes later is not begun
  before_latches : c.inputs < t.inputs → (c.latches ≡ []) × (c.outputs ≡ []) × (c.gates ≡ [])
  before_outputs : length c.latches < t.latches → (c.outputs ≡ []) × (c.gates ≡ [])
  before_gates : length c.outputs < t.outputs → c.gates ≡ []
  latch_literals : list_all (is_literal (told_variables t)) c.latches ≡ true
  output_literals : list_all (is_literal (told_variables t)) c.outputs ≡ true
  gate_literals : gates_fit (t.inputs + t.latches) c.gates ≡ true

abbrev pub Holds : State → Type 0
Holds (unbegun c) = c ≡ none_yet
Holds (going t c) = IsPart t c

not_less : (a b : ℕ) → ltb a b ≡ false → a < b → ⊥
not_less a b h k = let from = ltb-false a b h in omega (arith, from, k)

no_more : (a b : ℕ) → ltb a b ≡ false → b ≤ a
no_more a b h = ltb-false a b h

pub one_longer : {X : Type 0} (xs : List X) (x : X) → length (xs ++ x ∷ []) ≡ length xs + 1
one_longer xs x = length-append xs (x ∷ [])

begins : (t : Told) → told_variables t < 2 ^ 31 → t.outputs < 2 ^ 32 → IsPart t none_yet
begins t few outputs = record {
  few = few;
  few_outputs = outputs;
  inputs = omega arith;
  latches = omega arith;
  outputs = omega arith;
  gates = omega arith;
  before_latches = λ less. (refl, refl, refl);
  before_outputs = λ less. (refl, refl);
  before_gates = λ less. refl;
  latch_literals = refl;
  output_literals = refl;
  gate_literals = refl;
}

grows : (t : Told) (c : CircuitTree) (line : List ℕ) (s : State) → IsPart t c → Added t c line s → Holds s
grows t c line s h (input e is same) =
    let less = ltb-true c.inputs t.inputs e in
    subst Holds same (record {
      few = h.few;
      few_outputs = h.few_outputs;
      inputs = omega (arith, less);
      latches = h.latches;
      outputs = h.outputs;
      gates = h.gates;
      before_latches = λ more. h.before_latches less;
      before_outputs = h.before_outputs;
      before_gates = h.before_gates;
      latch_literals = h.latch_literals;
      output_literals = h.output_literals;
      gate_literals = h.gate_literals;
    })
grows t c line s h (latch next e f fine is same) =
    let less = ltb-true (length c.latches) t.latches f in
    subst Holds same (record {
      few = h.few;
      few_outputs = h.few_outputs;
      inputs = h.inputs;
      latches = omega (arith, less, one_longer c.latches next);
      outputs = h.outputs;
      gates = h.gates;
      before_latches = λ more. absurd (not_less c.inputs t.inputs e more);
      before_outputs = λ more. h.before_outputs less;
      before_gates = h.before_gates;
      latch_literals = list_all_push (is_literal (told_variables t)) c.latches next h.latch_literals fine;
      output_literals = h.output_literals;
      gate_literals = h.gate_literals;
    })
grows t c line s h (output literal e f g fine is same) =
    let less = ltb-true (length c.outputs) t.outputs g in
    subst Holds same (record {
      few = h.few;
      few_outputs = h.few_outputs;
      inputs = h.inputs;
      latches = h.latches;
      outputs = omega (arith, less, one_longer c.outputs literal);
      gates = h.gates;
      before_latches = λ more. absurd (not_less c.inputs t.inputs e more);
      before_outputs = λ more. absurd (not_less (length c.latches) t.latches f more);
      before_gates = λ more. h.before_gates less;
      latch_literals = h.latch_literals;
      output_literals = list_all_push (is_literal (told_variables t)) c.outputs literal h.output_literals fine;
      gate_literals = h.gate_literals;
    })
grows t c line s h (gate joined e f g k left right is same) =
    let less = ltb-true (length c.gates) t.gates k in
    subst Holds same (record {
      few = h.few;
      few_outputs = h.few_outputs;
      inputs = h.inputs;
      latches = h.latches;
      outputs = h.outputs;
      gates = omega (arith, less, one_longer c.gates joined);
      before_latches = λ more. absurd (not_less c.inputs t.inputs e more);
      before_outputs = λ more. absurd (not_less (length c.latches) t.latches f more);
      before_gates = λ more. absurd (not_less (length c.outputs) t.outputs g more);
      latch_literals = h.latch_literals;
      output_literals = h.output_literals;
      gate_literals = gates_fit_push (t.inputs + t.latches) (t.inputs + t.latches + length c.gates) c.gates joined refl h.gate_literals
          left right;
    })

pub kept : (s u : State) (line : List ℕ) → Holds s → step s line ≡ Some u → Holds u
kept (unbegun c) u line h e =
    let b = begun c line u e in
    subst Holds b.same (subst (λ d. IsPart b.told d) (sym h) (begins b.told b.few b.few_outputs))
kept (going t c) u line h e = grows t c line u h (added t c line u e)

-- ---- what the lines so far are

abbrev pub joined : List (List ℕ) → List (List ℕ) → List (List ℕ) → List (List ℕ) → List (List ℕ)
joined ps qs rs us = ps ++ (qs ++ (rs ++ us))

abbrev written : State → List (List ℕ)
written (unbegun c) = []
written (going t c) =
    told_header t
    ∷ joined (map input_line (numbers_from 1 c.inputs)) (latch_lines t.inputs c.latches) (map output_line c.outputs)
    (gate_lines (t.inputs + t.latches) c.gates)

last_alone : (ps : List (List ℕ)) (l : List ℕ) → (ps ++ l ∷ []) ++ [] ≡ (ps ++ []) ++ l ∷ []
last_alone ps l = append-nil (ps ++ l ∷ []) ∙ ap (λ zs. zs ++ l ∷ []) (sym (append-nil ps))

last_first : (ps qs rs us : List (List ℕ)) (l : List ℕ) → qs ≡ [] → rs ≡ [] → us ≡ [] →
    joined (ps ++ l ∷ []) qs rs us ≡ joined ps qs rs us ++ l ∷ []
last_first ps qs rs us l e f g =
    (λ i. joined (ps ++ l ∷ []) (e i) (f i) (g i)) ∙ last_alone ps l ∙ (λ i. joined ps (sym e i) (sym f i) (sym g i) ++ l ∷ [])

last_second : (ps qs rs us : List (List ℕ)) (l : List ℕ) → rs ≡ [] → us ≡ [] →
    joined ps (qs ++ l ∷ []) rs us ≡ joined ps qs rs us ++ l ∷ []
last_second ps qs rs us l f g =
    (λ i. joined ps (qs ++ l ∷ []) (f i) (g i)) ∙ ap (λ zs. ps ++ zs) (last_alone qs l)
    ∙ sym (append_assoc ps (qs ++ []) (l ∷ [])) ∙ (λ i. joined ps qs (sym f i) (sym g i) ++ l ∷ [])

last_third : (ps qs rs us : List (List ℕ)) (l : List ℕ) → us ≡ [] → joined ps qs (rs ++ l ∷ []) us ≡ joined ps qs rs us ++ l ∷ []
last_third ps qs rs us l g =
    (λ i. joined ps qs (rs ++ l ∷ []) (g i))
    ∙ ap (λ zs. ps ++ zs) (ap (λ zs. qs ++ zs) (last_alone rs l) ∙ sym (append_assoc qs (rs ++ []) (l ∷ [])))
    ∙ sym (append_assoc ps (qs ++ (rs ++ [])) (l ∷ [])) ∙ (λ i. joined ps qs rs (sym g i) ++ l ∷ [])

last_fourth : (ps qs rs us : List (List ℕ)) (l : List ℕ) → joined ps qs rs (us ++ l ∷ []) ≡ joined ps qs rs us ++ l ∷ []
last_fourth ps qs rs us l =
    ap (λ zs. ps ++ zs)
    (ap (λ zs. qs ++ zs) (sym (append_assoc rs us (l ∷ []))) ∙ sym (append_assoc qs (rs ++ us) (l ∷ [])))
    ∙ sym (append_assoc ps (qs ++ (rs ++ us)) (l ∷ []))

latch_lines_push : (before own : ℕ) (nexts : List ℕ) (next : ℕ) → before + length nexts ≡ own →
    latch_lines before (nexts ++ next ∷ []) ≡ latch_lines before nexts ++ latch_line own next ∷ []
latch_lines_push before own [] next e =
    let same : before ≡ own = omega (arith, e) in ap (λ n. latch_line n next ∷ []) same
latch_lines_push before own (n ∷ nexts) next e =
    ap (λ zs. latch_line before n ∷ zs) (latch_lines_push (before + 1) own nexts next (omega (arith, e)))

gate_lines_push : (before own : ℕ) (gs : List GateTree) (g : GateTree) → before + length gs ≡ own →
    gate_lines before (gs ++ g ∷ []) ≡ gate_lines before gs ++ gate_line own g ∷ []
gate_lines_push before own [] g e = let same : before ≡ own = omega (arith, e) in ap (λ n. gate_line n g ∷ []) same
gate_lines_push before own (f ∷ gs) g e =
    ap (λ zs. gate_line before f ∷ zs) (gate_lines_push (before + 1) own gs g (omega (arith, e)))

pub input_lines_push : (n : ℕ) → map input_line (numbers_from 1 (n + 1)) ≡ map input_line (numbers_from 1 n) ++ input_line (n + 1) ∷ []
input_lines_push n =
    let next : n + 1 ≡ suc n = omega arith in
    ap (λ m. map input_line (numbers_from 1 m)) next
    ∙ ap (map input_line) (numbers_more 1 n (n + 1) (omega arith))
    ∙ map-append input_line (numbers_from 1 n) ((n + 1) ∷ [])

one : (s u : State) (line : List ℕ) → Holds s → step s line ≡ Some u → written u ≡ written s ++ line ∷ []
one (unbegun c) u line h e =
    let b = begun c line u e in
    ap written (sym b.same) ∙ ap (λ d. written (going b.told d)) h ∙ ap (λ zs. zs ∷ []) (sym b.is)
one (going t c) u line h e = by (added t c line u e) where
  ps : List (List ℕ)
  ps = map input_line (numbers_from 1 c.inputs)

  qs : List (List ℕ)
  qs = latch_lines t.inputs c.latches

  rs : List (List ℕ)
  rs = map output_line c.outputs

  us : List (List ℕ)
  us = gate_lines (t.inputs + t.latches) c.gates

  so_far : List ℕ → List (List ℕ)
  so_far l = told_header t ∷ (joined ps qs rs us ++ l ∷ [])

  by : Added t c line u → written u ≡ written (going t c) ++ line ∷ []
  by (input f is same) =
      let empty = h.before_latches (ltb-true c.inputs t.inputs f) in
      ap written (sym same)
      ∙ ap (λ zs. told_header t ∷ joined zs qs rs us) (input_lines_push c.inputs)
      ∙ ap (λ zs. told_header t ∷ zs)
      (last_first ps qs rs us (input_line (c.inputs + 1)) (ap (latch_lines t.inputs) empty.0) (ap (map output_line) empty.1)
      (ap (gate_lines (t.inputs + t.latches)) empty.2))
      ∙ ap so_far (sym is)
  by (latch next f g fine is same) =
      let empty = h.before_outputs (ltb-true (length c.latches) t.latches g) in
      let own = t.inputs + length c.latches in
      ap written (sym same)
      ∙ ap (λ zs. told_header t ∷ joined ps zs rs us) (latch_lines_push t.inputs own c.latches next refl)
      ∙ ap (λ zs. told_header t ∷ zs)
      (last_second ps qs rs us (latch_line own next) (ap (map output_line) empty.0) (ap (gate_lines (t.inputs + t.latches)) empty.1))
      ∙ ap so_far (sym is)
  by (output literal f g k fine is same) =
      let empty = h.before_gates (ltb-true (length c.outputs) t.outputs k) in
      ap written (sym same)
      ∙ ap (λ zs. told_header t ∷ joined ps qs zs us) (map-append output_line c.outputs (literal ∷ []))
      ∙ ap (λ zs. told_header t ∷ zs)
      (last_third ps qs rs us (output_line literal) (ap (gate_lines (t.inputs + t.latches)) empty))
      ∙ ap so_far (sym is)
  by (gate g f k m n left right is same) =
      let own = t.inputs + t.latches + length c.gates in
      ap written (sym same)
      ∙ ap (λ zs. told_header t ∷ joined ps qs rs zs) (gate_lines_push (t.inputs + t.latches) own c.gates g refl)
      ∙ ap (λ zs. told_header t ∷ zs) (last_fourth ps qs rs us (gate_line own g))
      ∙ ap so_far (sym is)

-- ---- what is read

abbrev pub circuit_of : State → CircuitTree
circuit_of (unbegun c) = c
circuit_of (going t c) = c

-- where no line is left
full : (t : Told) (c : CircuitTree) → IsPart t c → whole (going t c) ≡ true → t ≡ told_of c
full t c h done =
    by (ltb c.inputs t.inputs) (ltb (length c.latches) t.latches) (ltb (length c.outputs) t.outputs) (ltb (length c.gates) t.gates)
    refl refl refl refl done
  where
    by : (p q r u : Bool) → ltb c.inputs t.inputs ≡ p → ltb (length c.latches) t.latches ≡ q → ltb (length c.outputs) t.outputs ≡ r →
        ltb (length c.gates) t.gates ≡ u → is_no_line (first_left p q r u) ≡ true → t ≡ told_of c
    by true q r u e f g k d = absurd cc
    by false true r u e f g k d = absurd cc
    by false false true u e f g k d = absurd cc
    by false false false true e f g k d = absurd cc
    by false false false false e f g k d =
        let inputs : t.inputs ≡ c.inputs = omega (arith, h.inputs, no_more c.inputs t.inputs e) in
        let latches : t.latches ≡ length c.latches = omega (arith, h.latches, no_more (length c.latches) t.latches f) in
        let outputs : t.outputs ≡ length c.outputs = omega (arith, h.outputs, no_more (length c.outputs) t.outputs g) in
        let gates : t.gates ≡ length c.gates = omega (arith, h.gates, no_more (length c.gates) t.gates k) in
        λ i. record { inputs = inputs i; latches = latches i; outputs = outputs i; gates = gates i }

is_circuit : (c : CircuitTree) → IsPart (told_of c) c → IsCircuit c
is_circuit c h = record {
  latches = λ i l at. ltb-true l (2 * (variables c + 1)) (passes_at (is_literal (variables c)) c.latches i l h.latch_literals at);
  outputs = λ i l at. ltb-true l (2 * (variables c + 1)) (passes_at (is_literal (variables c)) c.outputs i l h.output_literals at);
  gates = λ k g at. gates_fit_at (c.inputs + length c.latches) c.gates k (c.inputs + length c.latches + k) g h.gate_literals refl at;
  few_variables = h.few;
  few_outputs = h.few_outputs;
}

pub is_circuit_text : (ls : List (List ℕ)) (s : State) → IsText step whole fresh ls s →
    IsCircuit (circuit_of s) × (circuit_lines (circuit_of s) ≡ ls)
is_circuit_text ls s h =
    by s (holds_after step whole fresh Holds kept ls s refl h.says) (says_written step whole written Holds kept one ls fresh s refl h.says)
    h.done
  where
    by : (s : State) → Holds s → written s ≡ ls → whole s ≡ true → IsCircuit (circuit_of s) × (circuit_lines (circuit_of s) ≡ ls)
    by (unbegun c) held e done = absurd cc
    by (going t c) held e done =
        let told = full t c held done in
        (is_circuit c (subst (λ u. IsPart u c) told held), ap (λ u. written (going u c)) (sym told) ∙ e)

read_told : (text : List ℕ) (s : State) → read_from step whole fresh 1 (lines_from 1 text) ≡ Ok s →
    IsCircuit (circuit_of s) × (text ≡ circuit_text (circuit_of s))
read_told text s h =
    let found = read_is_text step whole text fresh s h in
    let told = is_circuit_text found.0 s found.2 in
    (told.0, found.1 ∙ ap text_of_lines (sym told.1))

-- ---- the same, as the code has it

so_far_of : (counts : Option Counts) (c : CircuitTree) → circuit_of (state_from counts c) ≡ c
so_far_of None c = refl
so_far_of (Some counts) c = refl

pub circuit_read : (text : List ℕ) (first : State) (r : CircuitReader) → first ≡ fresh →
    read_from step whole first 1 (lines_from 1 text) ≡ Ok (reader_state r) → (latches outputs : List ℕ) (gates : List Gate) →
    latches ≡ r.latches.items → outputs ≡ r.outputs.items → gates ≡ r.gates.items →
    IsCircuit (record { inputs = r.inputs; latches = latches; outputs = outputs; gates = map gate_tree gates })
    × (text ≡ circuit_text (record { inputs = r.inputs; latches = latches; outputs = outputs; gates = map gate_tree gates }))
circuit_read text first r is h latches outputs gates e f g =
    let found = read_told text (reader_state r)
    (subst (λ s. read_from step whole s 1 (lines_from 1 text) ≡ Ok (reader_state r)) is h) in
    let same : circuit_of (reader_state r)
    ≡ record { inputs = r.inputs; latches = latches; outputs = outputs; gates = map gate_tree gates } =
    so_far_of r.counts (circuit_so_far r)
    ∙ (λ i. record { inputs = r.inputs; latches = sym e i; outputs = sym f i; gates = map gate_tree (sym g i) }) in
    subst (λ c. IsCircuit c × (text ≡ circuit_text c)) same found
