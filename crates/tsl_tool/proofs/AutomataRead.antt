-- What `automaton` writes is read by `accepts`, which says yes exactly where the formula fails on the loop.
use Rattle.std.proofs.Common.{◌≡◌, ◌∙◌, ◌↔◌, ℕ, ◌<◌, ◌≤◌, ◌^◌, Bool, true, not, List, [], ◌∷◌, length, drop}
use Rattle.std.proofs.Common.{sym, ap, subst, arith, nat_lt}
use Rattle.std.specs.List.{list_all, AllByRecursion}
use Rattle.std.proofs.lemmas.Bool.{and_parts, ltb-true}
use Rattle.std.proofs.lemmas.List.{length-drop, length-map, take-append-drop}
use Rattle.std.proofs.lemmas.Nat.{or_lt, pow_below, pow_pos}
use Rattle.std.proofs.lemmas.Option.{slice_get_within}
use Rattle.base_library.proofs.Booleans.{same_tests}
use Rattle.base_library.proofs.Each.{each_weaker, each_map}
use Rattle.base_library.proofs.Passes.{each_from_list_all}
use Rattle.lasso_text.specs.LetterText.{LoopTree, IsLoop}
use Rattle.lasso_text.proofs.LoopLaws.{one_loop}
use Rattle.tsl_terms.specs.declared.operator.UnaryOperator.TheVariants.{Negation}
use Rattle.tsl_terms.specs.FormulaTree.{unary}
use Rattle.tsl_terms.specs.SpecTree.{SpecTree, whole_formula}
use Rattle.tsl_terms.specs.WellFormed.{SpecFits}
use Rattle.ltl_formula.specs.LetterLoop.{LetterLoop, holds}
use Rattle.letter_space.specs.SpaceTree.{bit_count, IsSpace}
use Rattle.letter_space.specs.SpecSpace.{spec_space}
use Rattle.letter_space.specs.Letters.{with_bit}
use Rattle.letter_space.proofs.SpecSpaces.{spec_is_space}
use Rattle.underapprox.proofs.Agreement.{form_is_read}
use Rattle.cobuchi_automata.specs.Automata.{EdgeTree, IsOfChoice, untils_of, start_state, state_after}
use Rattle.cobuchi_automata.specs.Paths.{FitsLetters}
use Rattle.cobuchi_automata.proofs.AutomatonLemmas.{renumbered}
use Rattle.loop_acceptance.specs.Accepts.{Accepts, loop_of}
use Rattle.loop_acceptance.proofs.AcceptedLoops.{accepts_where_it_holds}
use Rattle.automaton_text.specs.BitNames.{bit_names}
use Rattle.automaton_text.specs.HoaText.{IsEdgeOf, IsHoa, IsHoaText, grouped}
use Rattle.automaton_text.proofs.WrittenRead.{read_back}
use Rattle.tool_io.specs.declared.reply.Reply.{Reply}
use Rattle.exchange_commands.specs.Letters.{with_bits, letter_of, letters_of}
use Rattle.exchange_commands.specs.Automaton.{negated_form, IsWrittenAutomaton}
use Rattle.exchange_commands.specs.Accepts.{AcceptsParts, AcceptsInput, SpellAcceptsInput, verdict_reply, LoopOutcome, automaton_refused}
use Rattle.exchange_commands.specs.Accepts.{letters_refused, both_spelled, AcceptsOutcome, without_letters, of_parts}
use Rattle.exchange_commands.proofs.LetterCounts.{letters_within, all_below}
use Rattle.tsl_tool.specs.WrittenAutomata.{TellsNegation, AreWithLoop, holds_on}
use Rattle.tsl_tool.proofs.ChoiceBits.{edge_asks}
use Rattle.tsl_tool.proofs.ExchangesCome.{automaton_stands, same_automaton, letters_stand, letters_short, one_division}
use Rattle.tsl_tool.proofs.FormBits.{form_below}
use Rattle.tsl_tool.proofs.GroupedEdges.{grouped_automaton}
use Rattle.tsl_tool.proofs.PlainBitNames.{names_plain, names_counted}

-- ---- what the text tells

module _ (spec : SpecTree) (fits : SpecFits spec) (text : List ℕ) (written : IsWrittenAutomaton spec text) where
  abbrev bits : ℕ
  bits = bit_count (spec_space spec)

  abbrev names : List (List ℕ)
  names = bit_names spec.names (spec_space spec)

  abbrev edges_told : List EdgeTree
  edges_told = grouped (length written.states) written.edges

  counted : length names ≡ bits
  counted = names_counted spec.names (spec_space spec)

  is_space : IsSpace (spec_space spec)
  is_space = spec_is_space spec written.few_bits.few_predicates written.few_bits.few_bits

  edge_fits : (e : EdgeTree) → IsOfChoice (untils_of (negated_form spec)) written.states e → IsEdgeOf (length names) (length written.states) e
  edge_fits e of =
      let asks = edge_asks bits (negated_form spec)
      (form_below (spec_space spec) is_space.in_order (unary Negation (whole_formula spec))) written.states written.edges
      written.is_automaton e of in
      record {
        from = slice_get_within written.states e.from of.state of.here;
        to = slice_get_within written.states e.to (state_after (untils_of (negated_form spec)) of.state of.choice) of.there;
        asks = subst (λ (n : ℕ). e.care < 2 ^ n) (sym counted) asks.0;
        within = asks.1;
      }

  is_hoa : IsHoa names (length written.states) written.edges
  is_hoa =
      let few : bits ≤ 64 = written.few_bits.few_bits in
      let small : length written.states ≤ 4096 = written.few_states in
      record {
        plain = names_plain spec.names fits.names (spec_space spec);
        few_bits = omega (arith, counted, few);
        some_state = let first = slice_get_within written.states 0 (start_state (negated_form spec)) written.is_automaton.start in
            omega (arith, first);
        few_states = omega (arith, small);
        are_edges = each_weaker (IsOfChoice (untils_of (negated_form spec)) written.states)
            (IsEdgeOf (length names) (length written.states)) edge_fits written.edges written.is_automaton.of_choices;
      }

  pub tells_negation : TellsNegation spec text
  tells_negation =
      let again = grouped_automaton (negated_form spec) written.states written.edges written.is_automaton in
      let as_many : length written.edges ≡ length edges_told = (renumbered (negated_form spec) written.states written.edges written.states
      edges_told written.is_automaton again).as_many_edges in
      record {
        states = written.states;
        edges = edges_told;
        is_automaton = again;
        told = subst (λ (n : ℕ). IsHoaText text n (length written.states) edges_told) counted
            (subst (λ (t : List ℕ). IsHoaText t (length names) (length written.states) edges_told) (sym written.text_is)
            (read_back names (length written.states) written.edges is_hoa));
        within = record {
          few_bits = written.few_bits.few_bits;
          few_states = written.few_states;
          few_edges = omega (arith, as_many, written.few_edges);
        };
      }

-- ---- letters are words

word_with : (letter : ℕ) (ns : List ℕ) → letter < 2 ^ 64 → list_all (λ n. nat_lt n 64) ns ≡ true → with_bits letter ns < 2 ^ 64
word_with letter [] below few = below
word_with letter (n ∷ ns) below few =
    let parts = and_parts (nat_lt n 64) (list_all (λ m. nat_lt m 64) ns) few in
    word_with (with_bit letter n) ns (or_lt 64 letter (2 ^ n) below (pow_below n 64 (ltb-true n 64 parts.0))) parts.1

words : (bits : ℕ) (loop : LoopTree) → bits ≤ 64 → IsLoop bits loop → FitsLetters (loop_of (letters_of loop.letters) loop.back)
words bits loop few is_loop =
    subst (AllByRecursion (λ letter. letter < 2 ^ 64)) (sym (take-append-drop loop.back (letters_of loop.letters)))
    (each_map (λ letter. letter < 2 ^ 64) letter_of loop.letters
    (each_weaker (λ ns. list_all (λ n. nat_lt n 64) ns ≡ true) (λ ns. letter_of ns < 2 ^ 64)
    (λ ns below. word_with 0 ns (pow_pos 64) below) loop.letters
    (each_from_list_all (λ ns. list_all (λ n. nat_lt n 64) ns) loop.letters (all_below bits loop.letters few is_loop.0))))

some_cycle : (bits : ℕ) (loop : LoopTree) → IsLoop bits loop → 1 ≤ length (drop loop.back (letters_of loop.letters))
some_cycle bits loop is_loop =
    omega (arith, length-drop loop.back (letters_of loop.letters), length-map loop.letters letter_of, is_loop.1)

-- ---- what `accepts` replies

module _ (spec : SpecTree) (fits : SpecFits spec) (text : List ℕ) (written : IsWrittenAutomaton spec text) (loop : LoopTree)
    (given : List ℕ) (there : AreWithLoop spec text loop given) (few : length given ≤ 16777216) where
  abbrev tells : TellsNegation spec text
  tells = tells_negation spec fits text written

  abbrev parts : AcceptsParts
  parts = there.parts

  abbrev letters : LetterLoop
  letters = loop_of (letters_of loop.letters) loop.back

  few_bits : bit_count (spec_space spec) ≤ 64
  few_bits = tells.within.few_bits

  abbrev input : AcceptsInput
  input = record { bits = bit_count (spec_space spec); states = length tells.states; edges = tells.edges; letters = loop }

  automaton_there : IsHoaText parts.automaton (bit_count (spec_space spec)) (length tells.states) tells.edges
  automaton_there =
      subst (λ (t : List ℕ). IsHoaText t (bit_count (spec_space spec)) (length tells.states) tells.edges) (sym there.automaton) tells.told

  spelled : SpellAcceptsInput parts input
  spelled = record { automaton = automaton_there; is_loop = there.is_loop; letters = there.letters }

  short : length parts.letters < 2 ^ 32
  short = omega (arith, letters_short given parts there.are_parts, few)

  fails_where_accepted : Accepts tells.edges letters ↔ (not (holds_on spec loop) ≡ true)
  fails_where_accepted =
      let law = accepts_where_it_holds (negated_form spec) tells.states tells.edges tells.is_automaton letters
      (words (bit_count (spec_space spec)) loop few_bits there.is_loop)
      (some_cycle (bit_count (spec_space spec)) loop there.is_loop) in
      let read : holds letters (negated_form spec) 0 ≡ not (holds_on spec loop) =
      form_is_read (spec_space spec) letters (unary Negation (whole_formula spec)) 0 in
      (λ accepts. sym read ∙ law.0 accepts, λ fails. law.1 (read ∙ fails))

  same_loop : (other : AcceptsInput) → SpellAcceptsInput parts other → loop ≡ other.letters
  same_loop other too =
      let same = same_automaton parts input spelled tells.within short other.bits other.states other.edges too.automaton in
      let is_loop : IsLoop (bit_count (spec_space spec)) other.letters =
      subst (λ (n : ℕ). IsLoop n other.letters) (sym same.0) too.is_loop in
      one_loop (bit_count (spec_space spec)) loop other.letters (omega (arith, few_bits))
      (omega (arith, letters_within parts.letters loop there.letters, short))
      (omega (arith, letters_within parts.letters other.letters too.letters, short)) there.is_loop is_loop (sym there.letters ∙ too.letters)

  verdict_is : (other : AcceptsInput) → SpellAcceptsInput parts other → (holds_here : Bool) →
      (holds_here ≡ true) ↔ Accepts other.edges (loop_of (letters_of other.letters.letters) other.letters.back) →
      holds_here ≡ not (holds_on spec loop)
  verdict_is other too holds_here exactly =
      let same = same_automaton parts input spelled tells.within short other.bits other.states other.edges too.automaton in
      let here : (holds_here ≡ true) ↔ Accepts tells.edges letters =
      subst (λ (l : LoopTree). (holds_here ≡ true) ↔ Accepts tells.edges (loop_of (letters_of l.letters) l.back)) (sym (same_loop other too))
      (subst (λ (es : List EdgeTree). (holds_here ≡ true) ↔ Accepts es (loop_of (letters_of other.letters.letters) other.letters.back))
      (sym same.2) exactly) in
      same_tests holds_here (not (holds_on spec loop)) (λ e. fails_where_accepted.0 (here.0 e)) (λ e. here.1 (fails_where_accepted.1 e))

  loop_reply : (reply : Reply) → LoopOutcome parts reply → reply ≡ verdict_reply (not (holds_on spec loop))
  loop_reply reply (automaton_refused error fault h is_fault is) =
      absurd (automaton_stands parts.automaton (bit_count (spec_space spec)) (length tells.states) tells.edges automaton_there tells.within
      error fault h is_fault)
  loop_reply reply (letters_refused more states edges line told within wrong is) =
      absurd (letters_stand parts input spelled tells.within short more states edges line told wrong)
  loop_reply reply (both_spelled other too within holds_here exactly is) =
      is ∙ ap verdict_reply (verdict_is other too holds_here exactly)

  pub written_is_judged : (reply : Reply) → AcceptsOutcome given reply → reply ≡ verdict_reply (not (holds_on spec loop))
  written_is_judged reply (without_letters none is) = absurd (none there.are_parts.cut.at there.are_parts.cut.first.is_line)
  written_is_judged reply (of_parts other are outcome) =
      loop_reply reply (subst (λ (p : AcceptsParts). LoopOutcome p reply) (one_division given other parts are there.are_parts) outcome)
