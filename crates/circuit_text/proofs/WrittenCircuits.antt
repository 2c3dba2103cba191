-- The text of a circuit is written kind by kind, and what is written is read.
use Rattle.std.proofs.Common.{◌≡◌, ℕ, zero, suc, ◌+◌, ◌*◌, ◌^◌, ◌<◌, ◌≤◌, true, false, ◌&&◌, ltb, List, [], ◌∷◌, ◌++◌, length, map}
use Rattle.std.proofs.Common.{Some, Result, Ok, refl, sym, ap, subst, ◌∙◌, append_assoc, append-nil, arith}
use Rattle.std.specs.Prelude.{option_and_then}
use Rattle.std.specs.List.{list_all}
use Rattle.std.proofs.lemmas.Bool.{and_parts, and_from, lt-ltb, le-ltb}
use Rattle.base_library.specs.Numbers.{numbers_from}
use Rattle.base_library.proofs.Passes.{list_all_joined, list_all_from_places}
use Rattle.tsl_text.specs.Lines.{lines_from}
use Rattle.tsl_text.specs.Written.{is_line, text_of_lines}
use Rattle.line_formats.specs.Machine.{read_from, steps, IsText}
use Rattle.line_formats.proofs.MachineLaws.{steps_append, text_append, text_is_read}
use Rattle.circuits.specs.Circuits.{GateTree, CircuitTree, IsCircuit, variables}
use Rattle.circuit_text.specs.CircuitText.{header_line, input_line, latch_line, latch_lines, output_line, gate_line, gate_lines, circuit_lines}
use Rattle.circuit_text.specs.CircuitText.{circuit_text}
use Rattle.circuit_text.specs.internal.Lines.{Told, told_variables, State, going, none_yet, fresh, is_literal, step, whole}
use Rattle.circuit_text.specs.internal.Lines.{with_input, with_latch, with_output, with_gate, first_left, is_no_line}
use Rattle.circuit_text.proofs.CircuitLines.{Makes, header_makes, input_makes, latch_makes, output_makes, gate_makes}
use Rattle.circuit_text.proofs.ReadCircuits.{gates_fit, gates_fit_from, told_of, one_longer, joined, input_lines_push, circuit_of}

-- ---- what is written

-- one more input is written
pub one_more_input : (start out new : List ℕ) (n : ℕ) → out ≡ start ++ text_of_lines (map input_line (numbers_from 1 n)) →
    new ≡ out ++ (input_line (n + 1) ++ 10 ∷ []) → new ≡ start ++ text_of_lines (map input_line (numbers_from 1 (n + 1)))
one_more_input start out new n h k =
    let so_far = text_of_lines (map input_line (numbers_from 1 n)) in
    let last = input_line (n + 1) ++ 10 ∷ [] in
    k ∙ ap (λ zs. zs ++ last) h ∙ append_assoc start so_far last
    ∙ ap (λ zs. start ++ zs)
    (sym (ap text_of_lines (input_lines_push n)
    ∙ text_append (map input_line (numbers_from 1 n)) (input_line (n + 1) ∷ [])
    ∙ ap (λ zs. so_far ++ zs) (append-nil last)))

-- the lines of a circuit are written kind by kind
pub put_together : (c : CircuitTree) (start first inputs latches outputs gates : List ℕ) → start ≡ [] →
    first ≡ start ++ (header_line c ++ 10 ∷ []) → inputs ≡ first ++ text_of_lines (map input_line (numbers_from 1 c.inputs)) →
    latches ≡ inputs ++ text_of_lines (latch_lines c.inputs c.latches) → outputs ≡ latches ++ text_of_lines (map output_line c.outputs) →
    gates ≡ outputs ++ text_of_lines (gate_lines (c.inputs + length c.latches) c.gates) → gates ≡ circuit_text c
put_together c start first inputs latches outputs gates e f g h k l =
    l ∙ ap (λ zs. zs ++ text_of_lines us) (k ∙ ap (λ zs. zs ++ text_of_lines rs) (h ∙ ap (λ zs. zs ++ text_of_lines qs)
    (g ∙ ap (λ zs. zs ++ text_of_lines ps) (f ∙ ap (λ zs. zs ++ top) e))))
    ∙ append_assoc ((top ++ text_of_lines ps) ++ text_of_lines qs) (text_of_lines rs) (text_of_lines us)
    ∙ append_assoc (top ++ text_of_lines ps) (text_of_lines qs) (text_of_lines rs ++ text_of_lines us)
    ∙ append_assoc top (text_of_lines ps) (text_of_lines qs ++ (text_of_lines rs ++ text_of_lines us))
    ∙ ap (λ zs. top ++ zs)
    (ap (λ zs. text_of_lines ps ++ (text_of_lines qs ++ zs)) (sym (text_append rs us))
    ∙ ap (λ zs. text_of_lines ps ++ zs) (sym (text_append qs (rs ++ us)))
    ∙ sym (text_append ps (qs ++ (rs ++ us))))
  where
    top : List ℕ
    top = header_line c ++ 10 ∷ []

    ps : List (List ℕ)
    ps = map input_line (numbers_from 1 c.inputs)

    qs : List (List ℕ)
    qs = latch_lines c.inputs c.latches

    rs : List (List ℕ)
    rs = map output_line c.outputs

    us : List (List ℕ)
    us = gate_lines (c.inputs + length c.latches) c.gates

-- ---- what is written is read

record Leads (s : State) (ls : List (List ℕ)) (u : State) : Type 0 where
  are : list_all is_line ls ≡ true
  lead : steps step s ls ≡ Some u

stays : (s u : State) → s ≡ u → Leads s [] u
stays s u e = record { are = refl; lead = ap (λ z. Some z) e }

first_then : (s t u : State) (l : List ℕ) (ls : List (List ℕ)) → Makes s l t → Leads t ls u → Leads s (l ∷ ls) u
first_then s t u l ls m rest = record {
  are = and_from (is_line l) (list_all is_line ls) m.is rest.are;
  lead = ap (option_and_then (λ z. steps step z ls)) m.steps_to ∙ rest.lead;
}

and_then : (s t u : State) (ls ms : List (List ℕ)) → Leads s ls t → Leads t ms u → Leads s (ls ++ ms) u
and_then s t u ls ms first rest = record {
  are = list_all_joined is_line ls ms first.are rest.are;
  lead = steps_append step whole s t ls ms first.lead ∙ rest.lead;
}

module _ (t : Told) (few : told_variables t < 2 ^ 31) where
  inputs_lead : (count : ℕ) (c : CircuitTree) (total next : ℕ) → c.inputs + count ≡ total → total ≤ t.inputs → c.inputs + 1 ≡ next →
      Leads (going t c) (map input_line (numbers_from next count)) (going t (record c { inputs = total }))
  inputs_lead zero c total next e below n =
      let same : c.inputs ≡ total = omega (arith, e) in
      stays (going t c) (going t (record c { inputs = total })) (ap (λ m. going t (record c { inputs = m })) same)
  inputs_lead (suc count) c total next e below n =
      let m = input_makes t c few (lt-ltb c.inputs t.inputs (omega (arith, e, below))) in
      first_then (going t c) (going t (with_input c)) (going t (record c { inputs = total })) (input_line next)
      (map input_line (numbers_from (suc next) count))
      (subst (λ k. Makes (going t c) (input_line k) (going t (with_input c))) n m)
      (inputs_lead count (with_input c) total (suc next) (omega (arith, e)) below (omega (arith, n)))

  latches_lead : (rest : List ℕ) (c : CircuitTree) (before : ℕ) → t.inputs ≤ c.inputs → length c.latches + length rest ≤ t.latches →
      t.inputs + length c.latches ≡ before → list_all (is_literal (told_variables t)) rest ≡ true →
      Leads (going t c) (latch_lines before rest) (going t (record c { latches = c.latches ++ rest }))
  latches_lead [] c before full below e fine =
      stays (going t c) (going t (record c { latches = c.latches ++ [] }))
      (ap (λ xs. going t (record c { latches = xs })) (sym (append-nil c.latches)))
  latches_lead (next ∷ rest) c before full below e fine =
      let parts = and_parts (is_literal (told_variables t) next) (list_all (is_literal (told_variables t)) rest) fine in
      let more = one_longer c.latches next in
      let m = latch_makes t c few next (le-ltb c.inputs t.inputs full)
      (lt-ltb (length c.latches) t.latches (omega (arith, below))) parts.0 in
      first_then (going t c) (going t (with_latch c next)) (going t (record c { latches = c.latches ++ next ∷ rest }))
      (latch_line before next) (latch_lines (before + 1) rest)
      (subst (λ k. Makes (going t c) (latch_line k next) (going t (with_latch c next))) e m)
      (subst (λ xs. Leads (going t (with_latch c next)) (latch_lines (before + 1) rest) (going t (record c { latches = xs })))
      (append_assoc c.latches (next ∷ []) rest)
      (latches_lead rest (with_latch c next) (before + 1) full (omega (arith, below, more)) (omega (arith, e, more)) parts.1))

  outputs_lead : (rest : List ℕ) (c : CircuitTree) → t.inputs ≤ c.inputs → t.latches ≤ length c.latches →
      length c.outputs + length rest ≤ t.outputs → list_all (is_literal (told_variables t)) rest ≡ true →
      Leads (going t c) (map output_line rest) (going t (record c { outputs = c.outputs ++ rest }))
  outputs_lead [] c full latches below fine =
      stays (going t c) (going t (record c { outputs = c.outputs ++ [] }))
      (ap (λ xs. going t (record c { outputs = xs })) (sym (append-nil c.outputs)))
  outputs_lead (literal ∷ rest) c full latches below fine =
      let parts = and_parts (is_literal (told_variables t) literal) (list_all (is_literal (told_variables t)) rest) fine in
      let more = one_longer c.outputs literal in
      first_then (going t c) (going t (with_output c literal)) (going t (record c { outputs = c.outputs ++ literal ∷ rest }))
      (output_line literal) (map output_line rest)
      (output_makes t c few literal (le-ltb c.inputs t.inputs full) (le-ltb (length c.latches) t.latches latches)
      (lt-ltb (length c.outputs) t.outputs (omega (arith, below))) parts.0)
      (subst (λ xs. Leads (going t (with_output c literal)) (map output_line rest) (going t (record c { outputs = xs })))
      (append_assoc c.outputs (literal ∷ []) rest)
      (outputs_lead rest (with_output c literal) full latches (omega (arith, below, more)) parts.1))

  gates_lead : (rest : List GateTree) (c : CircuitTree) (before : ℕ) → t.inputs ≤ c.inputs → t.latches ≤ length c.latches →
      t.outputs ≤ length c.outputs → length c.gates + length rest ≤ t.gates → t.inputs + t.latches + length c.gates ≡ before →
      gates_fit before rest ≡ true → Leads (going t c) (gate_lines before rest) (going t (record c { gates = c.gates ++ rest }))
  gates_lead [] c before full latches outputs below e fine =
      stays (going t c) (going t (record c { gates = c.gates ++ [] }))
      (ap (λ xs. going t (record c { gates = xs })) (sym (append-nil c.gates)))
  gates_lead (g ∷ rest) c before full latches outputs below e fine =
      let parts = and_parts (is_literal before g.left && is_literal before g.right) (gates_fit (before + 1) rest) fine in
      let both = and_parts (is_literal before g.left) (is_literal before g.right) parts.0 in
      let more = one_longer c.gates g in
      let m = gate_makes t c few g (le-ltb c.inputs t.inputs full) (le-ltb (length c.latches) t.latches latches)
      (le-ltb (length c.outputs) t.outputs outputs) (lt-ltb (length c.gates) t.gates (omega (arith, below)))
      (ap (λ n. is_literal n g.left) e ∙ both.0) (ap (λ n. is_literal n g.right) e ∙ both.1) in
      first_then (going t c) (going t (with_gate c g)) (going t (record c { gates = c.gates ++ g ∷ rest }))
      (gate_line before g) (gate_lines (before + 1) rest)
      (subst (λ k. Makes (going t c) (gate_line k g) (going t (with_gate c g))) e m)
      (subst (λ xs. Leads (going t (with_gate c g)) (gate_lines (before + 1) rest) (going t (record c { gates = xs })))
      (append_assoc c.gates (g ∷ []) rest)
      (gates_lead rest (with_gate c g) (before + 1) full latches outputs (omega (arith, below, more)) (omega (arith, e, more)) parts.1))

pub is_text : (c : CircuitTree) → IsCircuit c → IsText step whole fresh (circuit_lines c) (going (told_of c) c)
is_text c is =
    let all = first_then fresh (at none_yet) (at c) (header_line c) (joined ps qs rs us)
    (header_makes t none_yet is.few_variables is.few_outputs)
    (and_then (at none_yet) (at one_list) (at c) ps (qs ++ (rs ++ us))
    (inputs_lead t is.few_variables c.inputs none_yet c.inputs 1 (omega arith) (omega arith) (omega arith))
    (and_then (at one_list) (at two_lists) (at c) qs (rs ++ us)
    (latches_lead t is.few_variables c.latches one_list c.inputs (omega arith) (omega arith) (omega arith) latches)
    (and_then (at two_lists) (at three_lists) (at c) rs us
    (outputs_lead t is.few_variables c.outputs two_lists (omega arith) (omega arith) (omega arith) outputs)
    (gates_lead t is.few_variables c.gates three_lists (c.inputs + length c.latches) (omega arith) (omega arith) (omega arith) (omega arith)
    (omega arith) gates)))) in
    record { lines = all.are; says = all.lead; done = done }
  where
    t : Told
    t = told_of c

    at : CircuitTree → State
    at d = going t d

    ps : List (List ℕ)
    ps = map input_line (numbers_from 1 c.inputs)

    qs : List (List ℕ)
    qs = latch_lines c.inputs c.latches

    rs : List (List ℕ)
    rs = map output_line c.outputs

    us : List (List ℕ)
    us = gate_lines (c.inputs + length c.latches) c.gates

    one_list : CircuitTree
    one_list = record { inputs = c.inputs; latches = []; outputs = []; gates = [] }

    two_lists : CircuitTree
    two_lists = record { inputs = c.inputs; latches = c.latches; outputs = []; gates = [] }

    three_lists : CircuitTree
    three_lists = record { inputs = c.inputs; latches = c.latches; outputs = c.outputs; gates = [] }

    latches : list_all (is_literal (variables c)) c.latches ≡ true
    latches = list_all_from_places (is_literal (variables c)) c.latches (λ i l at. lt-ltb l (2 * (variables c + 1)) (is.latches i l at))

    outputs : list_all (is_literal (variables c)) c.outputs ≡ true
    outputs = list_all_from_places (is_literal (variables c)) c.outputs (λ i l at. lt-ltb l (2 * (variables c + 1)) (is.outputs i l at))

    gates : gates_fit (c.inputs + length c.latches) c.gates ≡ true
    gates = gates_fit_from (c.inputs + length c.latches) c.gates is.gates

    never : (n : ℕ) → ltb n n ≡ false
    never n = le-ltb n n (omega arith)

    done : whole (going t c) ≡ true
    done = λ i. is_no_line (first_left (never c.inputs i) (never (length c.latches) i) (never (length c.outputs) i)
        (never (length c.gates) i))

pub one_circuit : (a b : CircuitTree) → IsCircuit a → IsCircuit b → circuit_text a ≡ circuit_text b → a ≡ b
one_circuit a b is other e =
    let left = text_is_read step whole (circuit_lines a) fresh (going (told_of a) a) (is_text a is) in
    let right = text_is_read step whole (circuit_lines b) fresh (going (told_of b) b) (is_text b other) in
    ap circuit_of
    (same_ok (read_from step whole fresh 1 (lines_from 1 (circuit_text b))) _ _
    (ap (λ text. read_from step whole fresh 1 (lines_from 1 text)) (sym e) ∙ left) right)
  where
    same_ok : (r : Result State ℕ) (s t : State) → r ≡ Ok s → r ≡ Ok t → s ≡ t
    same_ok r s t h k = cc
