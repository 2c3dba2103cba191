-- What each line of an automaton's text adds, and what holds of the lines so far.
use Rattle.std.proofs.Common.{◌≡◌, ◌∙◌, ℕ, zero, suc, ◌-◌, ◌<◌, ◌≤◌, ◌^◌, ◌==◌, Bool, true, false, ◌&&◌, eqb, ltb, leb}
use Rattle.std.proofs.Common.{List, [], ◌∷◌, ◌++◌, length, take, Option, Some, None, slice_get, refl, sym, ap, subst, append_assoc, append-nil}
use Rattle.std.proofs.Common.{arith, codes, ◌⊎◌, inl, inr, Ok}
use Rattle.std.specs.Prelude.{option_map, option_and_then, decimal}
use Rattle.std.specs.List.{list_all, AllByRecursion}
use Rattle.std.proofs.lemmas.Bool.{and_parts, eqb-true, ltb-true, cases_lt}
use Rattle.std.proofs.lemmas.Nat.{pow_pos}
use Rattle.std.proofs.lemmas.Option.{slice_get-map, slice_get_within}
use Rattle.base_library.proofs.Each.{each_joined, each_weaker}
use Rattle.base_library.proofs.Places.{take_next}
use Rattle.tsl_text.specs.Written.{text_of_lines}
use Rattle.tsl_text.specs.Lines.{lines_from}
use Rattle.line_formats.specs.Format.{Format, Value, fits}
use Rattle.line_formats.specs.Machine.{read_from, IsText}
use Rattle.line_formats.proofs.FormatLaws.{and_then_some, line_written}
use Rattle.line_formats.proofs.MachineLaws.{read_is_text, says_written, holds_after}
use Rattle.cobuchi_automata.specs.Automata.{EdgeTree}
use Rattle.automaton_text.specs.HoaText.{joined, label_text, mark_text, edge_text, states_text, state_text, bits_text, header_lines, hoa_lines}
use Rattle.automaton_text.specs.HoaText.{number_bound, IsEdgeOf, IsHoa, IsHoaText, grouped}
use Rattle.automaton_text.specs.HoaLines.{Part, PartValue, leaves, line_text, word_line, states_line, bits_line, edge_line, body_line}
use Rattle.automaton_text.specs.HoaLines.{line_value, quoted_name, quoted_names, is_marked, LiteralTree, literals_in, rise, care_with, Head}
use Rattle.automaton_text.specs.HoaLines.{says, counts, lists, header, State, fresh, when, head_step, edge_with}
use Rattle.automaton_text.specs.HoaLines.{may_join, edge_step, body_step, step_at, step, whole}
use Rattle.automaton_text.specs.FirstWrongLine.{said_of}
use Rattle.automaton_text.proofs.BitLines.{law}
use Rattle.automaton_text.proofs.LabelBits.{cube_within, literals_written, care_below}
use Rattle.automaton_text.proofs.HoaLabels.{quoted_fit, label_written, states_print, state_print, bits_print, edge_print}
use Rattle.automaton_text.proofs.HoaGroups.{AreBelow, state_grouped, edge_grouped, lines_of, state_lined, edge_lined}

-- ---- places in the header

-- what stands in front of a line of the header, whatever that line tells, or that the header is over
abbrev Front : Option Head → ℕ → Type 0
Front None k = 7 ≤ k
Front (Some (says word)) k = Unit {0}
Front (Some counts) k = (names : List (List ℕ)) (m n : ℕ) → take k (header_lines names m) ≡ take k (header_lines names n)
Front (Some lists) k = (ns ms : List (List ℕ)) (n : ℕ) → take k (header_lines ns n) ≡ take k (header_lines ms n)

front : (k : ℕ) → Front (slice_get header k) k
front zero = tt
front (suc zero) = λ names m n. refl
front (suc (suc zero)) = tt
front (suc (suc (suc zero))) = λ ns ms n. refl
front (suc (suc (suc (suc zero)))) = tt
front (suc (suc (suc (suc (suc zero))))) = tt
front (suc (suc (suc (suc (suc (suc zero)))))) = tt
front (suc (suc (suc (suc (suc (suc (suc k))))))) = omega arith

pub head_within : (k : ℕ) (h : Head) → slice_get header k ≡ Some h → k < 7
head_within k h is = slice_get_within header k h is

pub past_header : (k : ℕ) → slice_get header k ≡ None → 7 ≤ k
past_header k is = subst (λ o. Front o k) is (front k)

abbrev pub head_text : List (List ℕ) → ℕ → Head → List ℕ
head_text names states (says word) = word
head_text names states counts = states_text states
head_text names states lists = bits_text names

-- ---- what holds of the lines so far, and which were read

pub record Holds (s : State) : Type 0 where
  pub within : s.passed ≤ 7
  pub bits : s.bits ≡ length s.names
  pub told : IsHoa s.names s.states s.edges
  pub begun : s.begun ≤ s.states
  pub in_header : s.passed < 7 → (s.begun ≡ 0) × (s.edges ≡ []) × (s.ended ≡ false)
  pub done : s.ended ≡ true → s.begun ≡ s.states
  pub below : AreBelow s.begun s.edges
  pub in_order : s.edges ≡ grouped s.begun s.edges

pub holds_first : Holds fresh
holds_first = record {
  within = omega arith;
  bits = refl;
  told = record { plain = refl; few_bits = omega arith; some_state = omega arith; few_states = omega arith; are_edges = tt };
  begun = omega arith;
  in_header = λ _. (refl, refl, refl);
  done = λ e. absurd (cc e);
  below = tt;
  in_order = refl;
}

abbrev written_of : List (List ℕ) → List (List ℕ) → Bool → List (List ℕ)
written_of head body true = head ++ body ++ codes "--END--" ∷ []
written_of head body false = head ++ body

abbrev pub written : State → List (List ℕ)
written s = written_of (take s.passed (header_lines s.names s.states)) (lines_of s.bits s.edges s.begun) s.ended

-- a line more keeps what holds, and is the last one of those that were read
abbrev Next : State → List ℕ → State → Type 0
Next s l t = Holds t × (written t ≡ written s ++ l ∷ [])

module _ (s : State) (l : List ℕ) (h : Holds s) (open' : s.ended ≡ false) where
  abbrev head_lines : List (List ℕ)
  head_lines = take s.passed (header_lines s.names s.states)

  abbrev body_lines : List (List ℕ)
  body_lines = lines_of s.bits s.edges s.begun

  -- a line of the header, after which these are the names and the number of states
  in_header : (hd : Head) (names : List (List ℕ)) (states bits : ℕ) → slice_get header s.passed ≡ Some hd → l ≡ head_text names states hd →
      bits ≡ length names → IsHoa names states [] → take s.passed (header_lines names states) ≡ head_lines →
      Next s l (record s { passed = suc s.passed; states = states; names = names; bits = bits })
  in_header hd names states bits here is count told same =
      let within = head_within s.passed hd here in
      let none = h.in_header within in
      let text = slice_get-map (head_text names states) header s.passed ∙ ap (option_map (head_text names states)) here in (
        record {
          within = omega (arith, within);
          bits = count;
          told = subst (IsHoa names states) (sym none.1) told;
          begun = omega (arith, none.0);
          in_header = λ _. none;
          done = λ e. absurd (cc (e, open'));
          below = h.below;
          in_order = h.in_order;
        },
        (λ i. written_of (take_next (header_lines names states) s.passed (head_text names states hd) text i)
            (lines_of bits s.edges (none.0 i)) (open' i))
            ∙ append-nil (take s.passed (header_lines names states) ++ head_text names states hd ∷ [])
            ∙ (λ i. same i ++ sym is i ∷ [])
            ∙ ap (λ xs. xs ++ l ∷ []) (sym (append-nil head_lines))
            ∙ sym (λ i. written_of head_lines (lines_of s.bits s.edges (none.0 i)) (open' i) ++ l ∷ []),
      )

  module _ (past : slice_get header s.passed ≡ None) where
    -- a line after the header
    in_body : (begun : ℕ) (edges : List EdgeTree) (ended : Bool) → begun ≤ s.states → (ended ≡ true → begun ≡ s.states) →
        AllByRecursion (IsEdgeOf (length s.names) s.states) edges → AreBelow begun edges → edges ≡ grouped begun edges →
        written_of head_lines (lines_of s.bits edges begun) ended ≡ (head_lines ++ body_lines) ++ l ∷ [] →
        Next s l (record s { begun = begun; edges = edges; ended = ended })
    in_body begun edges ended most done are below in_order one = (
      record {
        within = h.within;
        bits = h.bits;
        told = record {
          plain = h.told.plain;
          few_bits = h.told.few_bits;
          some_state = h.told.some_state;
          few_states = h.told.few_states;
          are_edges = are;
        };
        begun = most;
        in_header = λ before. absurd (let over = past_header s.passed past in omega (arith, before, over));
        done = done;
        below = below;
        in_order = in_order;
      },
      one ∙ sym (λ i. written_of head_lines body_lines (open' i) ++ l ∷ []),
    )

    -- one that is not the last
    in_states : (begun : ℕ) (edges : List EdgeTree) → begun ≤ s.states → AllByRecursion (IsEdgeOf (length s.names) s.states) edges →
        AreBelow begun edges → edges ≡ grouped begun edges → lines_of s.bits edges begun ≡ body_lines ++ l ∷ [] →
        Next s l (record s { begun = begun; edges = edges })
    in_states begun edges most are below in_order is =
        in_body begun edges s.ended most (λ e. absurd (cc (e, open'))) are below in_order
        ((λ i. written_of head_lines (is i) (open' i)) ∙ sym (append_assoc head_lines body_lines (l ∷ [])))

    edge : (ls : List LiteralTree) (to : ℕ) (rejecting : Bool) → l ≡ edge_text s.bits (edge_with s ls to rejecting) →
        may_join s ls to ≡ true →
        Next s l (record s { edges = s.edges ++ edge_with s ls to rejecting ∷ [] })
    edge ls to rejecting is join =
        let parts = and_parts (ltb 0 s.begun && leb s.begun s.states) (ltb to s.states && rise s.bits 0 ls) join in
        let ends = and_parts (ltb to s.states) (rise s.bits 0 ls) parts.1 in
        let some = ltb-true 0 s.begun (and_parts (ltb 0 s.begun) (leb s.begun s.states) parts.0).0 in
        let few = h.begun in
        let previous : s.begun ≡ suc (s.begun - 1) = omega (arith, some) in
        let e = edge_with s ls to rejecting in
        in_states s.begun (s.edges ++ e ∷ []) h.begun
        (each_joined (IsEdgeOf (length s.names) s.states) s.edges (e ∷ []) h.told.are_edges (
          record {
            from = omega (arith, some, few);
            to = ltb-true to s.states ends.0;
            asks = subst (λ n. care_with 0 ls < 2 ^ n) h.bits (care_below s.bits 0 0 ls (pow_pos s.bits) ends.1);
            within = cube_within 0 0 ls refl;
          },
          tt,
        ))
        (each_joined (λ (e : EdgeTree). e.from < s.begun) s.edges (e ∷ []) h.below (omega (arith, some), tt))
        (ap (λ es. es ++ e ∷ []) (h.in_order ∙ ap (λ n. grouped n s.edges) previous)
        ∙ sym (edge_grouped s.edges e (s.begun - 1) refl)
        ∙ ap (λ n. grouped n (s.edges ++ e ∷ [])) (sym previous))
        (ap (lines_of s.bits (s.edges ++ e ∷ [])) previous
        ∙ edge_lined s.bits s.edges e (s.begun - 1) refl
        ∙ (λ i. lines_of s.bits s.edges (sym previous i) ++ sym is i ∷ []))

    state : l ≡ state_text s.begun → s.begun < s.states → Next s l (record s { begun = suc s.begun })
    state is below =
        in_states (suc s.begun) s.edges (omega (arith, below)) h.told.are_edges
        (each_weaker (λ (e : EdgeTree). e.from < s.begun) (λ e. e.from < suc s.begun) (λ e b. omega (arith, b)) s.edges h.below)
        (h.in_order ∙ sym (state_grouped s.edges s.begun h.below))
        (state_lined s.bits s.edges s.begun h.below ∙ ap (λ b. body_lines ++ b ∷ []) (sym is))

    last : l ≡ codes "--END--" → s.begun ≡ s.states → Next s l (record s { ended = true })
    last is all =
        in_body s.begun s.edges true h.begun (λ _. all) h.told.are_edges h.below h.in_order
        (ap (λ b. (head_lines ++ body_lines) ++ b ∷ []) (sym is))

-- ---- what a line that may stand there is

when_some : (P : State → Type 0) (b : Bool) (s t : State) → (b ≡ true → P s) → when b s ≡ Some t → P t
when_some P true s t each h = let same : s ≡ t = cc in subst P same (each refl)
when_some P false s t each h = absurd cc

-- what holds after each line of a format that is taken
said : (P : State → Type 0) (t : State) (bytes : List ℕ) (f : Format Part) (test : Value PartValue f → Bool)
    (to : Value PartValue f → State) →
    ((v : Value PartValue f) → bytes ≡ line_text f v → fits PartValue leaves f v ≡ true → test v ≡ true → P (to v)) →
    option_and_then (λ v. when (test v) (to v)) (line_value f bytes) ≡ Some t → P t
said P t bytes f test to each k =
    let found = and_then_some (line_value f bytes) (λ v. when (test v) (to v)) t k in
    let is = line_written PartValue leaves law f bytes found.0 found.1 in
    when_some P (test found.0) (to found.0) t (each found.0 is.0 is.1) found.2

label_of_edge : (s : State) (ls : List LiteralTree) (to : ℕ) (r : Bool) → rise s.bits 0 ls ≡ true →
    (label : List ℕ) → literals_in label ≡ Some ls → label ≡ label_text s.bits (edge_with s ls to r)
label_of_edge s ls to r up label h = label_written label ls h ∙ ap joined' (sym (literals_written s.bits ls up)) where
  joined' : List (List ℕ) → List ℕ
  joined' ts = joined ts

next : (s t : State) (l : List ℕ) → Holds s → step s l ≡ Some t → Next s l t
next s t l h e = by_end s.ended refl e where
  by_head : s.ended ≡ false → (hd : Head) → slice_get header s.passed ≡ Some hd → head_step s hd l ≡ Some t → Next s l t
  by_head open' (says word) here k =
      said (Next s l) t l (word_line word) (λ v. true) (λ v. record s { passed = suc s.passed })
      (λ v is fit test. in_header s l h open' (says word) s.names s.states s.bits here (is ∙ append-nil word) h.bits
      (subst (IsHoa s.names s.states) (h.in_header (head_within s.passed (says word) here)).1 h.told) refl) k
  by_head open' counts here k =
      said (Next s l) t l states_line (λ v. ltb 0 v.0) (λ v. record s { passed = suc s.passed; states = v.0 })
      (λ v is fit test. in_header s l h open' counts s.names v.0 s.bits here (is ∙ states_print v.0) h.bits
      (record {
        plain = h.told.plain;
        few_bits = h.told.few_bits;
        some_state = ltb-true 0 v.0 test;
        few_states = ltb-true v.0 number_bound (and_parts (ltb v.0 number_bound) true fit).0;
        are_edges = tt;
      })
      (subst (λ o. Front o s.passed) here (front s.passed) s.names v.0 s.states)) k
  by_head open' lists here k =
      said (Next s l) t l bits_line (λ v. v.0 == length (quoted_names v.1))
      (λ v. record s { passed = suc s.passed; names = quoted_names v.1; bits = length (quoted_names v.1) })
      (λ v is fit test.
      let same = eqb-true v.0 (length (quoted_names v.1)) test in
      let parts = and_parts (ltb v.0 number_bound) (list_all (fits PartValue leaves quoted_name) v.1.0 && true) fit in
      in_header s l h open' lists (quoted_names v.1) s.states (length (quoted_names v.1)) here (is ∙ bits_print v same) refl
      (record {
        plain = sym (quoted_fit v.1.0) ∙ (and_parts (list_all (fits PartValue leaves quoted_name) v.1.0) true parts.1).0;
        few_bits = subst (λ n. n < number_bound) same (ltb-true v.0 number_bound parts.0);
        some_state = h.told.some_state;
        few_states = h.told.few_states;
        are_edges = tt;
      })
      (subst (λ o. Front o s.passed) here (front s.passed) (quoted_names v.1) s.names s.states)) k

  by_edge : s.ended ≡ false → slice_get header s.passed ≡ None → (v : Value PartValue edge_line) → l ≡ line_text edge_line v →
      edge_step s v ≡ Some t → Next s l t
  by_edge open' past v is k =
      let found = and_then_some (literals_in v.0)
      (λ ls. when (may_join s ls v.1.0) (record s { edges = s.edges ++ edge_with s ls v.1.0 (is_marked v.1.1) ∷ [] })) t k in
      when_some (Next s l) (may_join s found.0 v.1.0)
      (record s { edges = s.edges ++ edge_with s found.0 v.1.0 (is_marked v.1.1) ∷ [] }) t
      (λ join.
      let up = (and_parts (ltb v.1.0 s.states) (rise s.bits 0 found.0)
      (and_parts (ltb 0 s.begun && leb s.begun s.states) (ltb v.1.0 s.states && rise s.bits 0 found.0) join).1).1 in
      edge s l h open' past found.0 v.1.0 (is_marked v.1.1)
      (is ∙ edge_print v.0 v.1.0 v.1.1
      ∙ ap (λ l. codes "[" ++ l ++ codes "] " ++ decimal v.1.0 ++ mark_text (is_marked v.1.1))
      (label_of_edge s found.0 v.1.0 (is_marked v.1.1) up v.0 found.1))
      join) found.2

  by_body : s.ended ≡ false → slice_get header s.passed ≡ None → (v : Value PartValue body_line) → l ≡ line_text body_line v →
      body_step s v ≡ Some t → Next s l t
  by_body open' past (inl v) is k = by_edge open' past v is k
  by_body open' past (inr (inl v)) is k =
      when_some (Next s l) (eqb v.0 s.begun && ltb v.0 s.states) (record s { begun = suc s.begun }) t
      (λ test.
      let parts = and_parts (eqb v.0 s.begun) (ltb v.0 s.states) test in
      let same = eqb-true v.0 s.begun parts.0 in
      state s l h open' past (is ∙ state_print v.0 ∙ ap state_text same) (subst (λ n. n < s.states) same (ltb-true v.0 s.states parts.1))) k
  by_body open' past (inr (inr v)) is k =
      when_some (Next s l) (eqb s.begun s.states) (record s { ended = true }) t
      (λ test. last s l h open' past is (eqb-true s.begun s.states test)) k

  by_place : s.ended ≡ false → (o : Option Head) → slice_get header s.passed ≡ o → step_at false o s l ≡ Some t → Next s l t
  by_place open' (Some head) e k = by_head open' head e k
  by_place open' None e k =
      let found = and_then_some (line_value body_line l) (body_step s) t k in
      by_body open' e found.0 (line_written PartValue leaves law body_line l found.0 found.1).0 found.2

  by_end : (b : Bool) → s.ended ≡ b → step_at b (slice_get header s.passed) s l ≡ Some t → Next s l t
  by_end true e k = absurd cc
  by_end false e k = by_place e (slice_get header s.passed) refl k

pub kept : (s t : State) (l : List ℕ) → Holds s → step s l ≡ Some t → Holds t
kept s t l h e = (next s t l h e).0

pub passed_all : (t : State) → Holds t → t.ended ≡ true → t.passed ≡ 7
passed_all t held done = by (cases_lt t.passed 7) where
  by : (t.passed < 7) ⊎ (7 ≤ t.passed) → t.passed ≡ 7
  by (inl below) = absurd (cc ((held.in_header below).2, done))
  by (inr above) = let within = held.within in omega (arith, within, above)

-- ---- what is read is the text of an automaton

-- lines that the steps take to the end are those of an automaton, and this is what they say
pub of_automaton : (ls : List (List ℕ)) (t : State) → IsText step whole fresh ls t →
    IsHoa t.names t.states t.edges × (t.edges ≡ grouped t.states t.edges) × (ls ≡ hoa_lines t.names t.states t.edges)
    × (t ≡ said_of t.names t.states t.edges)
of_automaton ls t is =
    by (holds_after step whole fresh Holds kept ls t holds_first is.says)
    (says_written step whole written Holds kept (λ s t l h e. (next s t l h e).1) ls fresh t holds_first is.says) is.done
  where
    by : Holds t → written t ≡ ls → t.ended ≡ true →
        IsHoa t.names t.states t.edges × (t.edges ≡ grouped t.states t.edges) × (ls ≡ hoa_lines t.names t.states t.edges)
        × (t ≡ said_of t.names t.states t.edges)
    by held all done =
        let passed : t.passed ≡ 7 = passed_all t held done in (
          held.told,
          held.in_order ∙ ap (λ n. grouped n t.edges) (held.done done),
          sym all ∙ (λ i. written_of (take (passed i) (header_lines t.names t.states))
              (lines_of (held.bits i) t.edges (held.done done i)) (done i)),
          λ i. record {
            passed = passed i;
            states = t.states;
            names = t.names;
            bits = held.bits i;
            begun = held.done done i;
            edges = t.edges;
            ended = done i;
          },
        )

pub told : (text : List ℕ) (t : State) → read_from step whole fresh 1 (lines_from 1 text) ≡ Ok t →
    IsHoaText text t.bits t.states t.edges
told text t h =
    let found = read_is_text step whole text fresh t h in
    let of = of_automaton found.0 t found.2 in
    record {
      names = t.names;
      named = sym (ap (λ (s : State). s.bits) of.3);
      is_hoa = of.0;
      in_order = of.1;
      written = found.1 ∙ ap text_of_lines of.2;
    }
