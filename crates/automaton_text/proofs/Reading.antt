-- What a reader does with a line is what the line says.
use Rattle.std.proofs.Common.{◌≡◌, ◌∙◌, ℕ, suc, ◌<◌, ◌≤◌, Bool, true, false, ◌&&◌, ltb, leb, List, [], ◌∷◌, ◌++◌, length, Option, Some, None}
use Rattle.std.proofs.Common.{All, slice_get, sym, ap, arith}
use Rattle.std.specs.Prelude.{option_map, option_and_then, if◌then◌else◌}
use Rattle.std.proofs.lemmas.Bool.{and_parts, leb-true, ltb-true, eq-eqb, false_from_ne_true}
use Rattle.std.proofs.lemmas.List.{length-map}
use Rattle.std.specs.List.{AllByRecursion}
use Rattle.std.proofs.lemmas.List.Elements.{All-from_recursion}
use Rattle.automaton_text.specs.declared.literals.Literal.{Literal}
use Rattle.automaton_text.specs.HoaView.{literal_tree, literal_trees}
use Rattle.automaton_text.proofs.LabelBits.{rise_parts}
use Rattle.base_library.proofs.Options.{some_mapped}
use Rattle.line_formats.specs.Format.{Value}
use Rattle.cobuchi_automata.specs.Edges.{edge_trees}
use Rattle.automaton_text.specs.HoaLines.{PartValue, bits_line, edge_line, line_value, quoted_names}
use Rattle.automaton_text.specs.HoaLines.{LiteralTree, literals_in, rise, header, State, when}
use Rattle.automaton_text.specs.HoaLines.{bits_step, edge_with, may_join, edge_step}
use Rattle.automaton_text.specs.HoaView.{are_few, kept_edges, kept, edges_read, reader_state}
use Rattle.automaton_text.specs.declared.reader.HoaReader.{HoaReader}
use Rattle.automaton_text.specs.internal.Marks.{mark_value}
use Rattle.automaton_text.proofs.HoaLabels.{mark_is}
use Rattle.automaton_text.proofs.HoaSteps.{past_header}
use Rattle.automaton_text.proofs.HoaKept.{pushed}

-- ---- the header

-- the line of the bits, by its numbers alone
pub bits_said : (s : State) (line : List ℕ) (n m : ℕ) →
    option_map {U = ℕ × ℕ} (λ (v : Value PartValue bits_line). (v.0, length v.1.0)) (line_value bits_line line) ≡ Some (n, m) → n ≡ m →
    option_map kept (option_and_then (bits_step s) (line_value bits_line line)) ≡ Some (kept (record s { passed = suc s.passed; bits = n }))
bits_said s line n m said same =
    let found = some_mapped (λ (v : Value PartValue bits_line). (v.0, length v.1.0)) (line_value bits_line line) (n, m) said in
    let v = found.0 in
    let names = quoted_names v.1 in
    let first : v.0 ≡ n = ap (λ (k : ℕ × ℕ). k.0) found.2 in
    let long : length names ≡ n = length-map v.1.0 _ ∙ ap (λ (k : ℕ × ℕ). k.1) found.2 ∙ sym same in
    ap (λ o. option_map kept (option_and_then (bits_step s) o)) found.1
    ∙ ap (λ b. option_map kept (when b (record s { passed = suc s.passed; names = names; bits = length names })))
    (eq-eqb v.0 (length names) (first ∙ sym long))
    ∙ (λ i. Some (kept (record s { passed = suc s.passed; bits = long i })))

-- ---- edges

abbrev edge_from : State → Option (List LiteralTree) → ℕ → Bool → Option State
edge_from s o to r =
    option_map kept
    (option_and_then (λ ls. when (may_join s ls to) (record s { edges = s.edges ++ edge_with s ls to r ∷ [] })) o)

edge_said : (s : State) (line label : List ℕ) (to : ℕ) (r : Bool) (o : Option (List LiteralTree)) →
    line_value edge_line line ≡ Some (label, (to, mark_value r)) → literals_in label ≡ o →
    option_map kept (option_and_then (edge_step s) (line_value edge_line line)) ≡ edge_from s o to r
edge_said s line label to r o said read =
    ap (λ o. option_map kept (option_and_then (edge_step s) o)) said
    ∙ ap (λ m. edge_from s (literals_in label) to m) (mark_is r)
    ∙ ap (λ o. edge_from s o to r) read

pub edges_past : (r : HoaReader) → 7 ≤ r.passed → edges_read r ≡ edge_trees r.edges.items
edges_past r past = ap (λ b. if b then [] else edge_trees r.edges.items) (not_below r.passed past) where
  not_below : (n : ℕ) → 7 ≤ n → ltb n 7 ≡ false
  not_below n past = false_from_ne_true (ltb n 7)
      (λ e. let below = ltb-true n 7 e in omega (arith, below, past))

pub edge_read : (old new : HoaReader) (line label : List ℕ) (to : ℕ) (r : Bool) (ls : List LiteralTree) (test : Bool) →
    slice_get header old.passed ≡ None → line_value edge_line line ≡ Some (label, (to, mark_value r)) → literals_in label ≡ Some ls →
    test ≡ may_join (reader_state old) ls to → test ≡ true →
    kept_edges old.bits old.states (edge_trees new.edges.items)
    ≡ kept_edges old.bits old.states (edge_trees old.edges.items ++ edge_with (reader_state old) ls to r ∷ []) →
    (new.passed ≡ old.passed) × (new.states ≡ old.states) × (new.bits ≡ old.bits) × (new.begun ≡ old.begun) × (new.ended ≡ old.ended) →
    option_map kept (option_and_then (edge_step (reader_state old)) (line_value edge_line line)) ≡ Some (reader_state new)
edge_read old new line label to r ls test past said read told right grown same =
    let over = past_header old.passed past in
    let passed = same.0 in
    let e = edge_with (reader_state old) ls to r in
    let edges : kept_edges old.bits old.states (kept_edges old.bits old.states (edges_read old) ++ e ∷ [])
    ≡ kept_edges new.bits new.states (edges_read new) =
    pushed (are_few old.bits old.states) (edges_read old) e
    ∙ ap (λ es. kept_edges old.bits old.states (es ++ e ∷ [])) (edges_past old over)
    ∙ sym grown
    ∙ ap (kept_edges old.bits old.states) (sym (edges_past new (omega (arith, over, passed))))
    ∙ (λ i. kept_edges (sym same.2 i) (sym same.1 i) (edges_read new)) in
    edge_said (reader_state old) line label to r (Some ls) said read
    ∙ ap (λ b. option_map kept (when b (record (reader_state old) { edges = (reader_state old).edges ++ e ∷ [] }))) (sym told ∙ right)
    ∙ (λ i. Some (record {
      passed = sym same.0 i;
      states = sym same.1 i;
      names = [];
      bits = sym same.2 i;
      begun = sym same.3 i;
      edges = edges i;
      ended = sym same.4 i;
    }))

-- the bits of an edge that is kept are low
pub low_bits : (s : State) (ls : List Literal) (to : ℕ) → may_join s (literal_trees ls) to ≡ true → are_few s.bits s.states ≡ true →
    All (λ l. l.bit < 64) ls
low_bits s ls to join few =
    let up = (and_parts (ltb to s.states) (rise s.bits 0 (literal_trees ls))
    (and_parts (ltb 0 s.begun && leb s.begun s.states) (ltb to s.states && rise s.bits 0 (literal_trees ls)) join).1).1 in
    All-from_recursion (λ (l : Literal). l.bit < 64) ls (by 0 ls up)
  where
    few_bits : s.bits ≤ 64
    few_bits = leb-true s.bits 64 (and_parts (leb s.bits 64) (leb s.states 4096) few).0

    by : (least : ℕ) (ls : List Literal) → rise s.bits least (literal_trees ls) ≡ true → AllByRecursion (λ (l : Literal). l.bit < 64) ls
    by least [] up = tt
    by least (l ∷ ls) up =
        let parts = rise_parts s.bits least (literal_tree l) (literal_trees ls) up in
        let few = few_bits in
        (omega (arith, parts.1, few), by (suc l.bit) ls parts.2)
