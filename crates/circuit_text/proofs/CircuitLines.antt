-- Lines of circuits: what each is written as, and the step that it makes.
use Rattle.std.proofs.Common.{◌≡◌, ℕ, ◌+◌, ◌*◌, ◌^◌, ◌<◌, Bool, true, false, ◌&&◌, eqb, ltb, List, [], ◌∷◌, ◌++◌, length, flat_map}
use Rattle.std.proofs.Common.{Some, refl, sym, ap, ◌∙◌, append_assoc, append-nil, arith, codes, decimal}
use Rattle.std.specs.Prelude.{option_and_then}
use Rattle.std.proofs.lemmas.Bool.{and_parts, and_from, eqb-true, eq-eqb, ltb-true, lt-ltb}
use Rattle.tsl_text.specs.Written.{is_line}
use Rattle.line_formats.specs.Format.{Format, Value, is_clear, is_feedless, fits}
use Rattle.line_formats.specs.Leaves.{number}
use Rattle.line_formats.proofs.FormatLaws.{IsLeaf, and_then_some, line_read, line_written, print_is_line}
use Rattle.line_formats.proofs.LeafLaws.{number_is_leaf}
use Rattle.circuits.specs.Circuits.{GateTree, CircuitTree}
use Rattle.circuit_text.specs.CircuitText.{numbers_line, input_line, latch_line, output_line, gate_line}
use Rattle.circuit_text.specs.internal.Lines.{Part, Numbers, leaves, one, two, three, header, line_value, line_text, Told, told_variables}
use Rattle.circuit_text.specs.internal.Lines.{State, going, is_literal, when, with_input, with_latch, with_output, with_gate, input_step}
use Rattle.circuit_text.specs.internal.Lines.{latch_step, output_step, gate_step, can_be_told, told_in, header_step, unbegun}
use Rattle.circuit_text.specs.internal.Lines.{first_left, step_of, step}

pub law : (i : Part) → IsLeaf (leaves i)
law i = number_is_leaf

-- ---- lines of numbers

-- numbers, each after a space
abbrev pub spaced : List ℕ → List ℕ
spaced numbers = flat_map (λ n. 32 ∷ decimal n) numbers

line_spaced : (n : ℕ) (more : List ℕ) → numbers_line (n ∷ more) ≡ decimal n ++ spaced more
line_spaced n [] = sym (append-nil (decimal n))
line_spaced n (m ∷ more) = ap (λ zs. decimal n ++ 32 ∷ zs) (line_spaced m more)

-- the first number is written
pub line_begun : (out new : List ℕ) (n : ℕ) (more : List ℕ) → new ≡ out ++ decimal n →
    new ++ (spaced more ++ 10 ∷ []) ≡ out ++ (numbers_line (n ∷ more) ++ 10 ∷ [])
line_begun out new n more h =
    ap (λ zs. zs ++ (spaced more ++ 10 ∷ [])) h ∙ append_assoc out (decimal n) (spaced more ++ 10 ∷ [])
    ∙ ap (λ zs. out ++ zs)
    (sym (append_assoc (decimal n) (spaced more) (10 ∷ [])) ∙ ap (λ zs. zs ++ 10 ∷ []) (sym (line_spaced n more)))

one_text : (v : Value Numbers one) → line_text one v ≡ numbers_line (v.0 ∷ [])
one_text v = append-nil (decimal v.0)

two_text : (v : Value Numbers two) → line_text two v ≡ numbers_line (v.0 ∷ v.1.0 ∷ [])
two_text v = ap (λ zs. decimal v.0 ++ 32 ∷ zs) (one_text v.1)

three_text : (v : Value Numbers three) → line_text three v ≡ numbers_line (v.0 ∷ v.1.0 ∷ v.1.1.0 ∷ [])
three_text v = ap (λ zs. decimal v.0 ++ 32 ∷ zs) (two_text v.1)

-- the header of a circuit with so many of each
abbrev pub told_header : Told → List ℕ
told_header t = codes "aag " ++ numbers_line (told_variables t ∷ t.inputs ∷ t.latches ∷ t.outputs ∷ t.gates ∷ [])

header_text : (v : Value Numbers header) →
    line_text header v ≡ codes "aag " ++ numbers_line (v.0 ∷ v.1.0 ∷ v.1.1.0 ∷ v.1.1.1.0 ∷ v.1.1.1.1.0 ∷ [])
header_text v = ap (λ zs. codes "aag " ++ (decimal v.0 ++ 32 ∷ (decimal v.1.0 ++ 32 ∷ zs))) (three_text v.1.1)

-- ---- steps

pub when_some : (b : Bool) (s t : State) → when b s ≡ Some t → (b ≡ true) × (s ≡ t)
when_some true s t h = (refl, cc)
when_some false s t h = absurd cc

when_true : (b : Bool) (s : State) → b ≡ true → when b s ≡ Some s
when_true b s h = ap (λ t. when t s) h

-- a line that is written so says its value
record Says (f : Format Part) (v : Value Numbers f) (line : List ℕ) : Type 0 where
  is : is_line line ≡ true
  reads : line_value f line ≡ Some v

says : (f : Format Part) → is_clear Numbers leaves f ≡ true → is_feedless Numbers leaves f ≡ true → (v : Value Numbers f) →
    fits Numbers leaves f v ≡ true → (line : List ℕ) → line_text f v ≡ line → Says f v line
says f clear feedless v h line e = record {
  is = ap is_line (sym e) ∙ print_is_line Numbers leaves law f feedless v h;
  reads = ap (line_value f) (sym e) ∙ line_read Numbers leaves law f clear v h;
}

short : (n : ℕ) → n < 10 ^ 18 → number.fits n ≡ true
short n h = lt-ltb n (10 ^ 18) h

-- a line that makes a step
pub record Makes (s : State) (line : List ℕ) (t : State) : Type 0 where
  pub is : is_line line ≡ true
  pub steps_to : step s line ≡ Some t

pub header_makes : (t : Told) (c : CircuitTree) → told_variables t < 2 ^ 31 → t.outputs < 2 ^ 32 →
    Makes (unbegun c) (told_header t) (going t c)
header_makes t c few outputs =
    let n = told_variables t in
    let v : Value Numbers header = (n, (t.inputs, (t.latches, (t.outputs, (t.gates, tt))))) in
    let good : fits Numbers leaves header v ≡ true =
    and_from (number.fits n) _ (short n (omega (arith, few)))
    (and_from (number.fits t.inputs) _ (short t.inputs (omega (arith, few)))
    (and_from (number.fits t.latches) _ (short t.latches (omega (arith, few)))
    (and_from (number.fits t.outputs) _ (short t.outputs (omega (arith, outputs)))
    (and_from (number.fits t.gates) true (short t.gates (omega (arith, few))) refl)))) in
    let said = says header refl refl v good (told_header t) (header_text v) in
    record {
      is = said.is;
      steps_to = ap (option_and_then (header_step c)) said.reads
          ∙ when_true (can_be_told n t) (going t c)
          (and_from (eqb n n) (ltb n (2 ^ 31) && ltb t.outputs (2 ^ 32)) (eq-eqb n n refl)
          (and_from (ltb n (2 ^ 31)) (ltb t.outputs (2 ^ 32)) (lt-ltb n (2 ^ 31) few) (lt-ltb t.outputs (2 ^ 32) outputs)));
    }

module _ (t : Told) (c : CircuitTree) (few : told_variables t < 2 ^ 31) where
  abbrev inputs_left : Bool
  inputs_left = ltb c.inputs t.inputs

  abbrev latches_left : Bool
  latches_left = ltb (length c.latches) t.latches

  abbrev outputs_left : Bool
  outputs_left = ltb (length c.outputs) t.outputs

  abbrev gates_left : Bool
  gates_left = ltb (length c.gates) t.gates

  pub input_makes : inputs_left ≡ true → Makes (going t c) (input_line (c.inputs + 1)) (going t (with_input c))
  input_makes e =
      let less = ltb-true c.inputs t.inputs e in
      let n = 2 * (c.inputs + 1) in
      let v : Value Numbers one = (n, tt) in
      let said = says one refl refl v (and_from (number.fits n) true (short n (omega (arith, less, few))) refl)
      (input_line (c.inputs + 1)) (one_text v) in
      record {
        is = said.is;
        steps_to = ap (λ b. step_of (first_left b latches_left outputs_left gates_left) t c (input_line (c.inputs + 1))) e
            ∙ ap (option_and_then (input_step t c)) said.reads
            ∙ when_true (eqb n n) (going t (with_input c)) (eq-eqb n n refl);
      }

  pub latch_makes : (next : ℕ) → inputs_left ≡ false → latches_left ≡ true → is_literal (told_variables t) next ≡ true →
      Makes (going t c) (latch_line (t.inputs + length c.latches) next) (going t (with_latch c next))
  latch_makes next e f literal =
      let less = ltb-true (length c.latches) t.latches f in
      let within = ltb-true next (2 * (told_variables t + 1)) literal in
      let n = 2 * (t.inputs + length c.latches + 1) in
      let v : Value Numbers two = (n, (next, tt)) in
      let line = latch_line (t.inputs + length c.latches) next in
      let said = says two refl refl v
      (and_from (number.fits n) _ (short n (omega (arith, less, few)))
      (and_from (number.fits next) true (short next (omega (arith, within, few))) refl)) line (two_text v) in
      record {
        is = said.is;
        steps_to = (λ i. step_of (first_left (e i) (f i) outputs_left gates_left) t c line)
            ∙ ap (option_and_then (latch_step t c)) said.reads
            ∙ when_true (eqb n n && is_literal (told_variables t) next) (going t (with_latch c next))
            (and_from (eqb n n) (is_literal (told_variables t) next) (eq-eqb n n refl) literal);
      }

  pub output_makes : (literal : ℕ) → inputs_left ≡ false → latches_left ≡ false → outputs_left ≡ true →
      is_literal (told_variables t) literal ≡ true → Makes (going t c) (output_line literal) (going t (with_output c literal))
  output_makes literal e f g fine =
      let within = ltb-true literal (2 * (told_variables t + 1)) fine in
      let v : Value Numbers one = (literal, tt) in
      let said = says one refl refl v
      (and_from (number.fits literal) true (short literal (omega (arith, within, few))) refl) (output_line literal) (one_text v) in
      record {
        is = said.is;
        steps_to = (λ i. step_of (first_left (e i) (f i) (g i) gates_left) t c (output_line literal))
            ∙ ap (option_and_then (output_step t c)) said.reads
            ∙ when_true (is_literal (told_variables t) literal) (going t (with_output c literal)) fine;
      }

  pub gate_makes : (gate : GateTree) → inputs_left ≡ false → latches_left ≡ false → outputs_left ≡ false → gates_left ≡ true →
      is_literal (t.inputs + t.latches + length c.gates) gate.left ≡ true →
      is_literal (t.inputs + t.latches + length c.gates) gate.right ≡ true →
      Makes (going t c) (gate_line (t.inputs + t.latches + length c.gates) gate) (going t (with_gate c gate))
  gate_makes gate e f g h left right =
      let before = t.inputs + t.latches + length c.gates in
      let less = ltb-true (length c.gates) t.gates h in
      let first = ltb-true gate.left (2 * (before + 1)) left in
      let second = ltb-true gate.right (2 * (before + 1)) right in
      let n = 2 * (before + 1) in
      let v : Value Numbers three = (n, (gate.left, (gate.right, tt))) in
      let said = says three refl refl v
      (and_from (number.fits n) _ (short n (omega (arith, less, few)))
      (and_from (number.fits gate.left) _ (short gate.left (omega (arith, first, less, few)))
      (and_from (number.fits gate.right) true (short gate.right (omega (arith, second, less, few))) refl)))
      (gate_line before gate) (three_text v) in
      record {
        is = said.is;
        steps_to = (λ i. step_of (first_left (e i) (f i) (g i) (h i)) t c (gate_line before gate))
            ∙ ap (option_and_then (gate_step t c)) said.reads
            ∙ when_true (eqb n n && (ltb gate.left n && ltb gate.right n)) (going t (with_gate c gate))
            (and_from (eqb n n) (ltb gate.left n && ltb gate.right n) (eq-eqb n n refl)
            (and_from (ltb gate.left n) (ltb gate.right n) left right));
      }

-- ---- what a line that may stand there is, and what it adds

pub data Added (t : Told) (c : CircuitTree) (line : List ℕ) (s : State) : Type 0 where
  input : ltb c.inputs t.inputs ≡ true → line ≡ input_line (c.inputs + 1) → going t (with_input c) ≡ s → Added t c line s
  latch : (next : ℕ) → ltb c.inputs t.inputs ≡ false → ltb (length c.latches) t.latches ≡ true →
      is_literal (told_variables t) next ≡ true → line ≡ latch_line (t.inputs + length c.latches) next → going t (with_latch c next) ≡ s →
      Added t c line s
  output : (literal : ℕ) → ltb c.inputs t.inputs ≡ false → ltb (length c.latches) t.latches ≡ false →
      ltb (length c.outputs) t.outputs ≡ true → is_literal (told_variables t) literal ≡ true → line ≡ output_line literal →
      going t (with_output c literal) ≡ s → Added t c line s
  gate : (gate : GateTree) → ltb c.inputs t.inputs ≡ false → ltb (length c.latches) t.latches ≡ false →
      ltb (length c.outputs) t.outputs ≡ false → ltb (length c.gates) t.gates ≡ true →
      is_literal (t.inputs + t.latches + length c.gates) gate.left ≡ true →
      is_literal (t.inputs + t.latches + length c.gates) gate.right ≡ true →
      line ≡ gate_line (t.inputs + t.latches + length c.gates) gate → going t (with_gate c gate) ≡ s → Added t c line s

pub added : (t : Told) (c : CircuitTree) (line : List ℕ) (s : State) → step (going t c) line ≡ Some s → Added t c line s
added t c line s k =
    by (ltb c.inputs t.inputs) (ltb (length c.latches) t.latches) (ltb (length c.outputs) t.outputs) (ltb (length c.gates) t.gates)
    refl refl refl refl k
  where
    by : (p q r u : Bool) → ltb c.inputs t.inputs ≡ p → ltb (length c.latches) t.latches ≡ q → ltb (length c.outputs) t.outputs ≡ r →
        ltb (length c.gates) t.gates ≡ u → step_of (first_left p q r u) t c line ≡ Some s → Added t c line s
    by true q r u e f g h k =
        let found = and_then_some (line_value one line) (input_step t c) s k in
        let n = 2 * (c.inputs + 1) in
        let passed = when_some (eqb found.0.0 n) (going t (with_input c)) s found.2 in
        let is = (line_written Numbers leaves law one line found.0 found.1).0 in
        input e (is ∙ one_text found.0 ∙ ap (λ m. numbers_line (m ∷ [])) (eqb-true found.0.0 n passed.0)) passed.1
    by false true r u e f g h k =
        let found = and_then_some (line_value two line) (latch_step t c) s k in
        let next = found.0.1.0 in
        let n = 2 * (t.inputs + length c.latches + 1) in
        let passed = when_some (eqb found.0.0 n && is_literal (told_variables t) next) (going t (with_latch c next)) s found.2 in
        let parts = and_parts (eqb found.0.0 n) (is_literal (told_variables t) next) passed.0 in
        let is = (line_written Numbers leaves law two line found.0 found.1).0 in
        latch next e f parts.1 (is ∙ two_text found.0 ∙ ap (λ m. numbers_line (m ∷ next ∷ [])) (eqb-true found.0.0 n parts.0)) passed.1
    by false false true u e f g h k =
        let found = and_then_some (line_value one line) (output_step t c) s k in
        let literal = found.0.0 in
        let passed = when_some (is_literal (told_variables t) literal) (going t (with_output c literal)) s found.2 in
        let is = (line_written Numbers leaves law one line found.0 found.1).0 in
        output literal e f g passed.0 (is ∙ one_text found.0) passed.1
    by false false false true e f g h k =
        let found = and_then_some (line_value three line) (gate_step t c) s k in
        let own = found.0.0 in
        let joined : GateTree = record { left = found.0.1.0; right = found.0.1.1.0 } in
        let n = 2 * (t.inputs + t.latches + length c.gates + 1) in
        let passed = when_some (eqb own n && (ltb joined.left own && ltb joined.right own)) (going t (with_gate c joined)) s found.2 in
        let parts = and_parts (eqb own n) (ltb joined.left own && ltb joined.right own) passed.0 in
        let below = and_parts (ltb joined.left own) (ltb joined.right own) parts.1 in
        let same : own ≡ n = eqb-true own n parts.0 in
        let is = (line_written Numbers leaves law three line found.0 found.1).0 in
        gate joined e f g h (ap (λ m. ltb joined.left m) (sym same) ∙ below.0) (ap (λ m. ltb joined.right m) (sym same) ∙ below.1)
        (is ∙ three_text found.0 ∙ ap (λ m. numbers_line (m ∷ joined.left ∷ joined.right ∷ [])) same) passed.1
    by false false false false e f g h k = absurd cc

-- what a header tells
pub record Begun (c : CircuitTree) (line : List ℕ) (s : State) : Type 0 where
  pub told : Told
  pub few : told_variables told < 2 ^ 31
  pub few_outputs : told.outputs < 2 ^ 32
  pub is : line ≡ told_header told
  pub same : going told c ≡ s

pub begun : (c : CircuitTree) (line : List ℕ) (s : State) → step (unbegun c) line ≡ Some s → Begun c line s
begun c line s k =
    let found = and_then_some (line_value header line) (header_step c) s k in
    let v = found.0 in
    let t = told_in v in
    let passed = when_some (can_be_told v.0 t) (going t c) s found.2 in
    let parts = and_parts (eqb (told_variables t) v.0) (ltb v.0 (2 ^ 31) && ltb t.outputs (2 ^ 32)) passed.0 in
    let bounds = and_parts (ltb v.0 (2 ^ 31)) (ltb t.outputs (2 ^ 32)) parts.1 in
    let same : told_variables t ≡ v.0 = eqb-true (told_variables t) v.0 parts.0 in
    let is = (line_written Numbers leaves law header line v found.1).0 in
    record {
      told = t;
      few = omega (arith, same, ltb-true v.0 (2 ^ 31) bounds.0);
      few_outputs = ltb-true t.outputs (2 ^ 32) bounds.1;
      is = is ∙ header_text v
          ∙ ap (λ m. codes "aag " ++ numbers_line (m ∷ t.inputs ∷ t.latches ∷ t.outputs ∷ t.gates ∷ [])) (sym same);
      same = passed.1;
    }
