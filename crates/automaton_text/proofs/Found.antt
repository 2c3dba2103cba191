-- What a reader found is the automaton that the text tells, or the refusal that it deserves.
use Rattle.std.proofs.Common.{◌≡◌, ◌∙◌, ℕ, ◌<◌, ◌≤◌, true, leb, List, [], length, All, Result, Ok, Err, refl, sym, ap, subst, arith}
use Rattle.std.specs.Prelude.{IfOk, IfErr, if◌then◌else◌}
use Rattle.std.specs.List.{AllByRecursion}
use Rattle.std.proofs.lemmas.Bool.{and_from, cond_both, le-leb}
use Rattle.std.proofs.lemmas.Result.{IfErr-at_err}
use Rattle.base_library.proofs.Each.{each_weaker, each_unmapped}
use Rattle.std.proofs.lemmas.List.Elements.{All-from_recursion}
use Rattle.line_formats.specs.Machine.{IsFirstWrong}
use Rattle.letter_space.specs.declared.limits.TheConstants.{MOST_BITS}
use Rattle.cobuchi_automata.specs.Automata.{EdgeTree}
use Rattle.cobuchi_automata.specs.Edges.{edge_tree, edge_trees, IsBetween}
use Rattle.cobuchi_automata.specs.Refusals.{most_automaton_states}
use Rattle.cobuchi_automata.specs.declared.automaton.Edge.{Edge}
use Rattle.automaton_text.specs.declared.hoa_error.HoaError.{HoaError}
use Rattle.automaton_text.specs.declared.hoa_error.HoaError.TheVariants.{Form, Bits, States, Edges, NoMemory}
use Rattle.automaton_text.specs.declared.reader.Hoa.{Hoa}
use Rattle.automaton_text.specs.declared.reader.HoaReader.{HoaReader}
use Rattle.automaton_text.specs.HoaText.{IsEdgeOf, IsHoaText}
use Rattle.automaton_text.specs.HoaLines.{State, step, whole, fresh}
use Rattle.automaton_text.specs.HoaRefusals.{IsHoaRefusal, IsSmall, TellsOf}
use Rattle.automaton_text.specs.HoaView.{are_few, kept_edges, edges_read, reader_state}
use Rattle.automaton_text.specs.internal.Limits.{HasAutomaton, PassesLimit}
use Rattle.automaton_text.proofs.HoaKept.{IsRead}
use Rattle.automaton_text.proofs.HoaSteps.{passed_all}
use Rattle.automaton_text.proofs.Reading.{edges_past}

few_is : (bits states : ℕ) → bits ≤ MOST_BITS → states ≤ most_automaton_states → are_few bits states ≡ true
few_is bits states b s =
    and_from (leb bits MOST_BITS) (leb states most_automaton_states) (le-leb bits MOST_BITS b) (le-leb states most_automaton_states s)

abbrev Joins : ℕ → EdgeTree → Type 0
Joins n e = (e.from < n) × (e.to < n)

pub has_automaton : (text : List ℕ) (k : State) → IsRead text k → HasAutomaton k
has_automaton text k r =
    subst HasAutomaton r.is (record {
      passed = passed_all r.full r.holds r.ended;
      some_state = r.holds.told.some_state;
      between = cond_both (are_few r.full.bits r.full.states) r.full.edges [] (AllByRecursion (Joins r.full.states))
          (λ few. each_weaker (IsEdgeOf (length r.full.names) r.full.states) (Joins r.full.states) (λ e is. (is.from, is.to)) r.full.edges
          r.holds.told.are_edges)
          (λ many. tt);
    })

-- the edges that a reader within the limits has are between its states
pub edges_between : (r : HoaReader) (items : List Edge) → items ≡ r.edges.items → HasAutomaton (reader_state r) → r.bits ≤ MOST_BITS →
    r.states ≤ most_automaton_states → All (IsBetween r.states) items
edges_between r items are has few_bits few_states =
    let passed = has.passed in
    let whole_edges : kept_edges r.bits r.states (edges_read r) ≡ edge_trees items =
    ap (λ b. if b then edges_read r else []) (few_is r.bits r.states few_bits few_states)
    ∙ edges_past r (omega (arith, passed))
    ∙ ap edge_trees (sym are) in
    All-from_recursion (IsBetween r.states) items
    (each_unmapped (Joins r.states) edge_tree items (subst (AllByRecursion (Joins r.states)) whole_edges has.between))

-- within the limits all edges are kept
all_kept : (text : List ℕ) (k : State) (r : IsRead text k) → k.bits ≤ MOST_BITS → k.states ≤ most_automaton_states → r.full.edges ≡ k.edges
all_kept text k r =
    subst (λ (s : State). s.bits ≤ MOST_BITS → s.states ≤ most_automaton_states → r.full.edges ≡ s.edges) r.is
    (λ few_bits few_states. sym (ap (λ b. if b then r.full.edges else []) (few_is r.full.bits r.full.states few_bits few_states)))

tells : (text : List ℕ) (k : State) (r : IsRead text k) → (edges : List EdgeTree) → r.full.edges ≡ edges → IsHoaText text k.bits k.states edges
tells text k r edges same =
    subst (λ (s : State). IsHoaText text s.bits s.states edges) r.is (subst (IsHoaText text r.full.bits r.full.states) same r.told)

pub found_told : (text : List ℕ) (k : State) (result : Result Hoa HoaError) → IsRead text k → IfOk result (λ found. found.bits ≡ k.bits) →
    IfOk result (λ found. found.automaton.states ≡ k.states) → IfOk result (λ found. edge_trees found.automaton.edges ≡ k.edges) →
    IfOk result (λ found. IsSmall k.bits k.states k.edges) →
    IfOk result (λ found. IsHoaText text found.bits found.automaton.states (edge_trees found.automaton.edges))
found_told text k (Err e) r bits states edges small = tt
found_told text k (Ok found) r bits states edges small =
    subst (λ b. IsHoaText text b found.automaton.states (edge_trees found.automaton.edges)) (sym bits)
    (subst (λ n. IsHoaText text k.bits n (edge_trees found.automaton.edges)) (sym states)
    (subst (IsHoaText text k.bits k.states) (sym edges)
    (tells text k r k.edges (all_kept text k r small.few_bits small.few_states))))

large : (text : List ℕ) (k : State) (r : IsRead text k) (edges : List EdgeTree) → r.full.edges ≡ edges →
    (Large : ℕ → ℕ → List EdgeTree → Type 0) → Large k.bits k.states edges → TellsOf text Large
large text k r edges same Large is =
    record { bits = k.bits; states = k.states; edges = edges; told = tells text k r edges same; large = is }

refused_by : (text : List ℕ) (k : State) (error : HoaError) → IsRead text k → PassesLimit k error → IsHoaRefusal error text
refused_by text k (Form line) r passes = absurd passes
refused_by text k Bits r passes = large text k r r.full.edges refl _ passes
refused_by text k States r passes = large text k r r.full.edges refl _ passes
refused_by text k Edges r passes = large text k r k.edges (all_kept text k r passes.0 passes.1) _ passes
refused_by text k NoMemory r passes = absurd passes

pub found_refused : (text : List ℕ) (k : State) (result : Result Hoa HoaError) (error : HoaError) → IsRead text k →
    IfErr result (PassesLimit k) → result ≡ Err error → IsHoaRefusal error text
found_refused text k result error r limit is = refused_by text k error r (IfErr-at_err (PassesLimit k) is limit)

pub form_refused : (text : List ℕ) (line : ℕ) (error : HoaError) → IsFirstWrong step whole fresh text line →
    (result : Result Hoa HoaError) → result ≡ Err (Form line) → result ≡ Err error → IsHoaRefusal error text
form_refused text line error wrong result was is = let same : Form line ≡ error = cc in subst (λ e. IsHoaRefusal e text) same wrong
