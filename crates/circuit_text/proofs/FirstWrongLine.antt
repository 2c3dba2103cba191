-- Each state that is reached can be gone on from, so that the line that reading tells is exactly the first wrong one.
use Rattle.std.proofs.Common.{◌≡◌, ℕ, suc, ◌+◌, ◌-◌, ◌*◌, ◌<◌, Bool, true, false, ltb, List, [], ◌∷◌, ◌++◌, length}
use Rattle.std.proofs.Common.{Err, refl, sym, ap, subst, ◌∙◌, append_assoc, append-nil, arith}
use Rattle.std.proofs.Common.{◌⊎◌, inl, inr}
use Rattle.std.specs.List.{list_all}
use Rattle.std.proofs.lemmas.Bool.{and_from, ltb-true, lt-ltb}
use Rattle.base_library.proofs.Passes.{list_all_joined}
use Rattle.tsl_text.specs.Lines.{lines_from}
use Rattle.tsl_text.specs.Written.{is_line, text_of_lines}
use Rattle.line_formats.specs.Machine.{read_from, IsLive, IsText}
use Rattle.line_formats.proofs.MachineLaws.{Goes, ends_by, fault_is_first, lines_begin, all_front}
use Rattle.line_formats.proofs.MachineLaws.{text_append}
use Rattle.circuits.specs.Circuits.{GateTree}
use Rattle.circuit_text.specs.CircuitText.{input_line, latch_line, output_line, gate_line, circuit_lines}
use Rattle.circuit_text.specs.CircuitText.{IsFirstWrongLine}
use Rattle.circuit_text.specs.internal.Lines.{told_variables, State, unbegun, going, none_yet, fresh, is_literal, step, whole}
use Rattle.circuit_text.specs.internal.Lines.{with_input, with_latch, with_output, with_gate, first_left, is_no_line}
use Rattle.circuit_text.proofs.CircuitLines.{told_header, Makes, header_makes, input_makes, latch_makes, output_makes, gate_makes}
use Rattle.circuit_text.proofs.ReadCircuits.{told_of, Holds, kept, one_longer, circuit_of, is_circuit_text}
use Rattle.circuit_text.proofs.WrittenCircuits.{is_text}

abbrev left_to_do : State → ℕ
left_to_do (unbegun c) = 1
left_to_do (going t c) =
    (t.inputs - c.inputs) + ((t.latches - length c.latches) + ((t.outputs - length c.outputs) + (t.gates - length c.gates)))

abbrev Going : State → Type 0
Going s = (whole s ≡ true) ⊎ Goes step whole Holds left_to_do s

goes_by : (s u : State) (line : List ℕ) → Makes s line u → left_to_do u < left_to_do s → Going s
goes_by s u line m less = inr (record { line = line; next = u; is = m.is; steps_to = m.steps_to; less = less })

goes : (s : State) → Holds s → Going s
goes (unbegun c) h = goes_by (unbegun c) (going (told_of none_yet) c) (told_header (told_of none_yet))
    (header_makes (told_of none_yet) c (omega arith) (omega arith))
    (subst (λ d. left_to_do (going (told_of none_yet) d) < 1) (sym h) (omega arith))
goes (going t c) h =
    by (ltb c.inputs t.inputs) (ltb (length c.latches) t.latches) (ltb (length c.outputs) t.outputs) (ltb (length c.gates) t.gates)
    refl refl refl refl
  where
    zero_is : (most : ℕ) → is_literal most 0 ≡ true
    zero_is most = lt-ltb 0 (2 * (most + 1)) (omega arith)

    by : (p q r u : Bool) → ltb c.inputs t.inputs ≡ p → ltb (length c.latches) t.latches ≡ q → ltb (length c.outputs) t.outputs ≡ r →
        ltb (length c.gates) t.gates ≡ u → Going (going t c)
    by true q r u e f g k =
        let less = ltb-true c.inputs t.inputs e in
        goes_by (going t c) (going t (with_input c)) (input_line (c.inputs + 1)) (input_makes t c h.few e) (omega (arith, less))
    by false true r u e f g k =
        let less = ltb-true (length c.latches) t.latches f in
        goes_by (going t c) (going t (with_latch c 0)) (latch_line (t.inputs + length c.latches) 0)
        (latch_makes t c h.few 0 e f (zero_is (told_variables t))) (omega (arith, less, one_longer c.latches 0))
    by false false true u e f g k =
        let less = ltb-true (length c.outputs) t.outputs g in
        goes_by (going t c) (going t (with_output c 0)) (output_line 0)
        (output_makes t c h.few 0 e f g (zero_is (told_variables t))) (omega (arith, less, one_longer c.outputs 0))
    by false false false true e f g k =
        let less = ltb-true (length c.gates) t.gates k in
        let own = t.inputs + t.latches + length c.gates in
        let joined : GateTree = record { left = 0; right = 0 } in
        goes_by (going t c) (going t (with_gate c joined)) (gate_line own joined)
        (gate_makes t c h.few joined e f g k (zero_is own) (zero_is own)) (omega (arith, less, one_longer c.gates joined))
    by false false false false e f g k = inl (λ i. is_no_line (first_left (e i) (f i) (g i) (k i)))

live : IsLive step whole fresh Holds
live = record {
  first = refl;
  kept = kept;
  ends = λ s h. ends_by step whole Holds left_to_do kept goes (suc (left_to_do s)) s (omega arith) h;
}

-- the line that reading tells is exactly the first wrong one
pub first_wrong_line : (text : List ℕ) (line : ℕ) → read_from step whole fresh 1 (lines_from 1 text) ≡ Err line →
    IsFirstWrongLine text line
first_wrong_line text line h =
    let w = fault_is_first step whole fresh Holds live text line h in
    let told = is_circuit_text (w.before ++ w.ending) w.end w.goes_on in
    record {
      before = w.before;
      after = w.after;
      split = w.split;
      are_lines = all_front is_line w.before w.ending w.goes_on.lines;
      number = w.number;
      goes_on = (circuit_of w.end, told.0, text_of_lines w.ending, ap text_of_lines told.1 ∙ text_append w.before w.ending);
      here = λ next rest e is b.
          let t = is_text b.0 b.1 in
          let lines : list_all is_line (w.before ++ next ∷ []) ≡ true =
          list_all_joined is_line w.before (next ∷ []) (all_front is_line w.before w.ending w.goes_on.lines)
          (and_from (is_line next) true is refl) in
          let text_is : text_of_lines (w.before ++ next ∷ []) ≡ text_of_lines w.before ++ (next ++ 10 ∷ []) =
          text_append w.before (next ∷ []) ∙ ap (λ zs. text_of_lines w.before ++ zs) (append-nil (next ++ 10 ∷ [])) in
          let more = lines_begin (w.before ++ next ∷ []) (circuit_lines b.0) b.2 lines t.lines
          (b.3 ∙ ap (λ zs. zs ++ b.2) (sym text_is)) in
          w.here next rest more.0 (going (told_of b.0) b.0) e is
          (subst (λ ls. IsText step whole fresh ls (going (told_of b.0) b.0))
          (more.1 ∙ append_assoc w.before (next ∷ []) more.0) t);
      none = λ c is e. w.none (circuit_lines c) (going (told_of c) c) (is_text c is) e;
    }

-- the same, as the code has it
pub first_wrong : (text : List ℕ) (first : State) (line : ℕ) → first ≡ fresh →
    read_from step whole first 1 (lines_from 1 text) ≡ Err line → IsFirstWrongLine text line
first_wrong text first line is h =
    first_wrong_line text line (subst (λ s. read_from step whole s 1 (lines_from 1 text) ≡ Err line) is h)
