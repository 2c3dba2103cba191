-- The text of an automaton is read as this automaton, its edges in the order of their first states.
use Rattle.std.proofs.Common.{◌≡◌, ◌∙◌, ℕ, zero, suc, ◌+◌, ◌-◌, ◌<◌, Bool, true, false, cond, ◌&&◌, ◌||◌, eqb, ltb, leb}
use Rattle.std.proofs.Common.{List, [], ◌∷◌, ◌++◌, length, map, Some, refl, sym, ap, subst, arith, append_assoc, append-nil}
use Rattle.std.proofs.Common.{codes, inl, Result, Ok, slice_get}
use Rattle.std.specs.Prelude.{option_and_then, flat_map, decimal, if◌then◌else◌}
use Rattle.std.specs.List.{list_all, AllByRecursion}
use Rattle.std.specs.Char.{is_ascii_digit}
use Rattle.std.proofs.lemmas.Bool.{and_parts, and_from, or_left, or_right, leb-true, le-leb, lt-ltb, eqb-true}
use Rattle.base_library.specs.Numbers.{numbers_from}
use Rattle.base_library.proofs.Each.{each_filtered, each_map}
use Rattle.base_library.proofs.Numbers.{numbers_below}
use Rattle.base_library.proofs.Passes.{list_all_weaker, list_all_joined}
use Rattle.tsl_text.specs.Written.{is_line}
use Rattle.tsl_text.specs.Lines.{lines_from}
use Rattle.tsl_text.proofs.NumberLaws.{decimal_digits}
use Rattle.line_formats.specs.Format.{fits, has}
use Rattle.line_formats.specs.Machine.{steps, IsText, IsFirstWrong, read_from}
use Rattle.line_formats.proofs.FormatLaws.{line_read, print_is_line}
use Rattle.line_formats.proofs.MachineLaws.{steps_append, text_is_read}
use Rattle.ltl_formula.specs.Cubes.{has_bit}
use Rattle.cobuchi_automata.specs.Automata.{EdgeTree}
use Rattle.annotation_check.specs.Annotations.{edges_from}
use Rattle.automaton_text.specs.HoaText.{number_bound, joined, label_text, literal_text, bits_asked, mark_text, edge_text, state_text}
use Rattle.automaton_text.specs.HoaText.{states_text, bits_text, state_lines, header_lines, hoa_lines, hoa_text, IsEdgeOf, IsHoa, IsHoaText, grouped}
use Rattle.automaton_text.specs.HoaLines.{LiteralTree, PartValue, leaves, within_brackets, edge_line, mark, body_line, line_value, line_text, is_marked, literals_in}
use Rattle.automaton_text.specs.HoaLines.{rise, Head, counts, lists, header, State, fresh, when, edge_with, may_join}
use Rattle.automaton_text.specs.HoaLines.{body_step, step, whole}
use Rattle.automaton_text.specs.internal.Marks.{mark_value}
use Rattle.automaton_text.proofs.BitLines.{law}
use Rattle.automaton_text.proofs.LabelBits.{texts_from, cube_literals, cube_rises, care_back, want_back}
use Rattle.automaton_text.proofs.HoaLabels.{label_read, edge_print, mark_is}
use Rattle.automaton_text.proofs.HoaSteps.{head_text, told}
use Rattle.automaton_text.proofs.HoaLive.{when_true, head_after, head_goes, head_is_line, state_goes, end_goes, state_is_line}

-- ---- labels stand between brackets

digit_inside : (b : ℕ) → is_ascii_digit b ≡ true → has within_brackets b ≡ true
digit_inside b digit =
    let parts = and_parts (leb 48 b) (leb b 57) digit in
    let from = leb-true 48 b parts.0 in
    let to = leb-true b 57 parts.1 in
    or_right (leb 0 b && leb b 9) ((leb 11 b && leb b 92) || ((leb 94 b && leb b 255) || false))
    (or_left (leb 11 b && leb b 92) ((leb 94 b && leb b 255) || false)
    (and_from (leb 11 b) (leb b 92) (le-leb 11 b (omega (arith, from))) (le-leb b 92 (omega (arith, to)))))

abbrev is_inside : List ℕ → Bool
is_inside bytes = list_all (has within_brackets) bytes

literal_inside : (want b : ℕ) → b < number_bound → is_inside (literal_text want b) ≡ true
literal_inside want b short =
    list_all_joined (has within_brackets) (if has_bit b want then [] else codes "!") (decimal b) (sign (has_bit b want))
    (list_all_weaker is_ascii_digit (has within_brackets) digit_inside (decimal b) (decimal_digits b (omega (arith, short))))
  where
    sign : (t : Bool) → is_inside (if t then [] else codes "!") ≡ true
    sign true = refl
    sign false = refl

abbrev AreShort : List ℕ → Type 0
AreShort bs = AllByRecursion (λ b. b < number_bound) bs

further_inside : (want : ℕ) (bs : List ℕ) → AreShort bs → is_inside (flat_map (λ m. codes "&" ++ m) (map (literal_text want) bs)) ≡ true
further_inside want [] short = refl
further_inside want (b ∷ bs) short =
    list_all_joined (has within_brackets) (codes "&" ++ literal_text want b) (flat_map (λ m. codes "&" ++ m) (map (literal_text want) bs))
    (literal_inside want b short.0) (further_inside want bs short.1)

joined_inside : (want : ℕ) (bs : List ℕ) → AreShort bs → is_inside (joined (map (literal_text want) bs)) ≡ true
joined_inside want [] short = refl
joined_inside want (b ∷ bs) short =
    list_all_joined (has within_brackets) (literal_text want b) (flat_map (λ m. codes "&" ++ m) (map (literal_text want) bs))
    (literal_inside want b short.0) (further_inside want bs short.1)

-- these lines lead from one state to another
abbrev Leads : State → List (List ℕ) → State → Type 0
Leads s ls t = (steps step s ls ≡ Some t) × (list_all is_line ls ≡ true)

first_line : (s t u : State) (l : List ℕ) (ls : List (List ℕ)) → step s l ≡ Some t → is_line l ≡ true → Leads t ls u → Leads s (l ∷ ls) u
first_line s t u l ls goes line rest =
    (ap (option_and_then (λ t. steps step t ls)) goes ∙ rest.0, and_from (is_line l) (list_all is_line ls) line rest.1)

all_lines : (s t u : State) (ls ms : List (List ℕ)) → Leads s ls t → Leads t ms u → Leads s (ls ++ ms) u
all_lines s t u ls ms before behind =
    (steps_append step whole s t ls ms before.0 ∙ behind.0, list_all_joined is_line ls ms before.1 behind.1)

-- after the whole text
abbrev read_as : List (List ℕ) → ℕ → List EdgeTree → State
read_as names states edges =
    record { passed = 7; states = states; names = names; bits = length names; begun = states; edges = grouped states edges; ended = true }

module _ (names : List (List ℕ)) (states : ℕ) (all_edges : List EdgeTree) (hoa : IsHoa names states all_edges) where
  -- after so many states, with these edges
  abbrev at : ℕ → List EdgeTree → State
  at q es = record { passed = 7; states = states; names = names; bits = length names; begun = q; edges = es; ended = false }

  -- ---- an edge

  bits_short : (d : EdgeTree) → AreShort (bits_asked (length names) d.care)
  bits_short d =
      each_filtered (λ b. b < number_bound) (λ b. has_bit b d.care) (numbers_from 0 (length names))
      (numbers_below 0 (length names) number_bound (let few = hoa.few_bits in omega (arith, few)))

  label_back : (d : EdgeTree) → literals_in (label_text (length names) d) ≡ Some (cube_literals (length names) d.care d.want)
  label_back d =
      ap (λ ts. literals_in (joined ts)) (sym (texts_from d.want (bits_asked (length names) d.care)))
      ∙ label_read (cube_literals (length names) d.care d.want)
      (each_map (λ (l : LiteralTree). l.bit < number_bound) (λ b. record { bit = b; wanted = has_bit b d.want })
      (bits_asked (length names) d.care) (bits_short d))

  edge_line_is : (d : EdgeTree) →
      line_text edge_line (label_text (length names) d, (d.to, mark_value d.rejecting))
      ≡ edge_text (length names) d
  edge_line_is d =
      edge_print (label_text (length names) d) d.to (mark_value d.rejecting)
      ∙ ap (λ r. codes "[" ++ label_text (length names) d ++ codes "] " ++ decimal d.to ++ mark_text r) (mark_is d.rejecting)

  edge_fits : (d : EdgeTree) → d.to < states →
      fits PartValue leaves edge_line (label_text (length names) d, (d.to, mark_value d.rejecting)) ≡ true
  edge_fits d below =
      and_from (is_inside (label_text (length names) d) && true)
      (ltb d.to number_bound && fits PartValue leaves mark (mark_value d.rejecting))
      (and_from (is_inside (label_text (length names) d)) true
      (joined_inside d.want (bits_asked (length names) d.care) (bits_short d)) refl)
      (and_from (ltb d.to number_bound) (fits PartValue leaves mark (mark_value d.rejecting))
      (lt-ltb d.to number_bound (let few = hoa.few_states in omega (arith, below, few))) (mark_fits d.rejecting))
    where
      mark_fits : (r : Bool) → fits PartValue leaves mark (mark_value r) ≡ true
      mark_fits true = refl
      mark_fits false = refl

  same_edge : (d : EdgeTree) (q : ℕ) (es : List EdgeTree) → d.from ≡ q → IsEdgeOf (length names) states d →
      edge_with (at (suc q) es) (cube_literals (length names) d.care d.want) d.to (is_marked (mark_value d.rejecting)) ≡ d
  same_edge d q es from is = let last : suc q - 1 ≡ d.from = omega (arith, from) in λ i. record {
    from = last i;
    care = care_back (length names) d.care d.want is.asks i;
    want = want_back (length names) d.care d.want is.asks is.within i;
    to = d.to;
    rejecting = mark_is d.rejecting i;
  }

  edge_goes : (d : EdgeTree) (q : ℕ) (es : List EdgeTree) → d.from ≡ q → IsEdgeOf (length names) states d →
      step (at (suc q) es) (edge_text (length names) d) ≡ Some (at (suc q) (es ++ d ∷ []))
  edge_goes d q es from is =
      let s = at (suc q) es in
      let m = mark_value d.rejecting in
      ap (λ zs. option_and_then (body_step s) (line_value body_line zs)) (sym (edge_line_is d))
      ∙ ap (option_and_then (body_step s))
      (line_read PartValue leaves law body_line refl (inl (label_text (length names) d, (d.to, m))) (edge_fits d is.to))
      ∙ ap
      (option_and_then
      (λ ls. when (may_join s ls d.to) (record s { edges = es ++ edge_with s ls d.to (is_marked m) ∷ [] })))
      (label_back d)
      ∙ when_true (may_join s (cube_literals (length names) d.care d.want) d.to)
      (record s { edges = es ++ edge_with s (cube_literals (length names) d.care d.want) d.to (is_marked m) ∷ [] })
      (and_from (ltb 0 (suc q) && leb (suc q) states) (ltb d.to states && rise (length names) 0 (cube_literals (length names) d.care d.want))
      (and_from (ltb 0 (suc q)) (leb (suc q) states) (lt-ltb 0 (suc q) (omega arith))
      (le-leb (suc q) states (let b = is.from in omega (arith, b, from))))
      (and_from (ltb d.to states) (rise (length names) 0 (cube_literals (length names) d.care d.want)) (lt-ltb d.to states is.to)
      (cube_rises (length names) d.care d.want)))
      ∙ ap (λ e. Some (at (suc q) (es ++ e ∷ []))) (same_edge d q es from is)

  edge_is_line : (d : EdgeTree) → d.to < states → is_line (edge_text (length names) d) ≡ true
  edge_is_line d below =
      ap is_line (sym (edge_line_is d))
      ∙ print_is_line PartValue leaves law edge_line refl (label_text (length names) d, (d.to, mark_value d.rejecting)) (edge_fits d below)

  -- ---- the edges of a state, and all states

  edges_go : (ds : List EdgeTree) (q : ℕ) (es : List EdgeTree) → AllByRecursion (λ d. (d.from ≡ q) × IsEdgeOf (length names) states d) ds →
      Leads (at (suc q) es) (map (edge_text (length names)) ds) (at (suc q) (es ++ ds))
  edges_go [] q es all = (ap (λ xs. Some (at (suc q) xs)) (sym (append-nil es)), refl)
  edges_go (d ∷ ds) q es all =
      first_line (at (suc q) es) (at (suc q) (es ++ d ∷ [])) (at (suc q) (es ++ d ∷ ds)) (edge_text (length names) d)
      (map (edge_text (length names)) ds) (edge_goes d q es all.0.0 all.0.1) (edge_is_line d all.0.1.to)
      (subst (λ xs. Leads (at (suc q) (es ++ d ∷ [])) (map (edge_text (length names)) ds) (at (suc q) xs)) (append_assoc es (d ∷ []) ds)
      (edges_go ds q (es ++ d ∷ []) all.1))

  from_state : (edges : List EdgeTree) (q : ℕ) → AllByRecursion (IsEdgeOf (length names) states) edges →
      AllByRecursion (λ d. (d.from ≡ q) × IsEdgeOf (length names) states d) (edges_from edges q)
  from_state [] q all = tt
  from_state (e ∷ edges) q all = by (eqb e.from q) refl (from_state edges q all.1) where
    by : (t : Bool) → eqb e.from q ≡ t → AllByRecursion (λ d. (d.from ≡ q) × IsEdgeOf (length names) states d) (edges_from edges q) →
        AllByRecursion (λ d. (d.from ≡ q) × IsEdgeOf (length names) states d) (cond t (e ∷ edges_from edges q) (edges_from edges q))
    by true is rest = ((eqb-true e.from q is, all.0), rest)
    by false is rest = rest

  states_go : (edges : List EdgeTree) → AllByRecursion (IsEdgeOf (length names) states) edges → (q count : ℕ) (es : List EdgeTree) →
      q + count ≡ states →
      Leads (at q es) (flat_map (state_lines (length names) edges) (numbers_from q count))
      (at states (es ++ flat_map (edges_from edges) (numbers_from q count)))
  states_go edges all q zero es sum =
      let all_begun : q ≡ states = omega (arith, sum) in ((λ i. Some (at (all_begun i) (sym (append-nil es) i))), refl)
  states_go edges all q (suc count) es sum =
      let below : q < states = omega (arith, sum) in
      let own = map (edge_text (length names)) (edges_from edges q) in
      let more = flat_map (state_lines (length names) edges) (numbers_from (suc q) count) in
      let later = flat_map (edges_from edges) (numbers_from (suc q) count) in
      let end = at states (es ++ (edges_from edges q ++ later)) in
      first_line (at q es) (at (suc q) es) end (state_text q) (own ++ more) (state_goes (at q es) refl refl below hoa.few_states)
      (state_is_line q (let few = hoa.few_states in omega (arith, below, few)))
      (all_lines (at (suc q) es) (at (suc q) (es ++ edges_from edges q)) end own more
      (edges_go (edges_from edges q) q es (from_state edges q all))
      (subst (λ xs. Leads (at (suc q) (es ++ edges_from edges q)) more (at states xs)) (append_assoc es (edges_from edges q) later)
      (states_go edges all (suc q) count (es ++ edges_from edges q) (omega (arith, sum)))))

  -- ---- the header

  head : (s : State) (h : Head) → s.ended ≡ false → slice_get header s.passed ≡ Some h →
      step s (head_text names states h) ≡ Some (head_after s names states h)
  head s h open' here = head_goes s names states all_edges open' hoa h here

  -- the lines behind that of the states, and behind that of the bits
  abbrev after_bits : List (List ℕ)
  after_bits = codes "acc-name: Buchi" ∷ codes "Acceptance: 1 Inf(0)" ∷ codes "--BODY--" ∷ []

  abbrev after_states : List (List ℕ)
  after_states = codes "Start: 0" ∷ bits_text names ∷ after_bits

  abbrev counted : State
  counted = record fresh { passed = 1 }

  abbrev named : State
  named = record fresh { passed = 3; states = states }

  header_goes : steps step fresh (header_lines names states) ≡ Some (at 0 [])
  header_goes =
      ap (option_and_then (λ t. steps step t after_states)) (head counted counts refl refl)
      ∙ ap (option_and_then (λ t. steps step t after_bits)) (head named lists refl refl)

  header_lines_are : list_all is_line (header_lines names states) ≡ true
  header_lines_are =
      and_from (is_line (states_text states)) (list_all is_line after_states)
      (head_is_line counted names states all_edges refl hoa counts refl)
      (and_from (is_line (bits_text names)) (list_all is_line after_bits)
      (head_is_line named names states all_edges refl hoa lists refl) refl)

  -- ---- the whole text

  pub is_text : IsText step whole fresh (hoa_lines names states all_edges) (read_as names states all_edges)
  is_text =
      let lines = flat_map (state_lines (length names) all_edges) (numbers_from 0 states) in
      let all = at states (grouped states all_edges) in
      let end = read_as names states all_edges in
      let leads = all_lines fresh all end (header_lines names states ++ lines) (codes "--END--" ∷ [])
      (all_lines fresh (at 0 []) all (header_lines names states) lines (header_goes, header_lines_are)
      (states_go all_edges hoa.are_edges 0 states [] (omega arith)))
      (first_line all end end (codes "--END--") [] (end_goes all refl refl refl) refl (refl, refl)) in
      record { lines = leads.1; says = leads.0; done = refl }

-- ---- laws

pub read_back : (names : List (List ℕ)) (states : ℕ) (edges : List EdgeTree) → IsHoa names states edges →
    IsHoaText (hoa_text names states edges) (length names) states (grouped states edges)
read_back names states edges is =
    told (hoa_text names states edges) (read_as names states edges)
    (text_is_read step whole (hoa_lines names states edges) fresh (read_as names states edges) (is_text names states edges is))

pub never_wrong : (text : List ℕ) (bits states line : ℕ) (edges : List EdgeTree) → IsHoaText text bits states edges →
    IsFirstWrong step whole fresh text line → ⊥
never_wrong text bits states line edges is wrong =
    wrong.none (hoa_lines is.names states edges) (read_as is.names states edges) (is_text is.names states edges is.is_hoa) is.written

pub one_automaton : (text : List ℕ) (bits states more_bits more_states : ℕ) (edges more_edges : List EdgeTree) →
    IsHoaText text bits states edges → IsHoaText text more_bits more_states more_edges →
    (bits ≡ more_bits) × (states ≡ more_states) × (edges ≡ more_edges)
one_automaton text bits states more_bits more_states edges more_edges a b =
    let same = same_ok (read_from step whole fresh 1 (lines_from 1 text)) (read_as a.names states edges)
    (read_as b.names more_states more_edges) (reads a) (reads b) in (
      sym a.named ∙ ap (λ (s : State). s.bits) same ∙ b.named,
      ap (λ (s : State). s.states) same,
      a.in_order ∙ ap (λ (s : State). s.edges) same ∙ sym b.in_order,
    )
  where
    reads : {m n : ℕ} {es : List EdgeTree} (t : IsHoaText text m n es) →
        read_from step whole fresh 1 (lines_from 1 text) ≡ Ok (read_as t.names n es)
    reads {m = m} {n = n} {es = es} t =
        ap (λ x. read_from step whole fresh 1 (lines_from 1 x)) t.written
        ∙ text_is_read step whole (hoa_lines t.names n es) fresh (read_as t.names n es) (is_text t.names n es t.is_hoa)

    same_ok : (r : Result State ℕ) (s t : State) → r ≡ Ok s → r ≡ Ok t → s ≡ t
    same_ok r s t h k = cc
