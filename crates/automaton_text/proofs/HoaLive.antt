-- From what the lines say, as far as they are right, some lines lead to the end; so a fault is the first wrong line.
use Rattle.std.proofs.Common.{◌≡◌, ◌∙◌, ℕ, suc, ◌+◌, ◌-◌, ◌<◌, ◌≤◌, ◌==◌, Bool, true, false, ◌&&◌, ltb, List, length}
use Rattle.std.proofs.Common.{Option, Some, None, Err, slice_get, refl, sym, ap, subst, arith, append-nil, codes, inl, inr, ◌⊎◌}
use Rattle.std.specs.Prelude.{option_and_then, if◌then◌else◌}
use Rattle.std.specs.List.{list_all}
use Rattle.std.proofs.lemmas.Bool.{and_from, lt-ltb, eq-eqb, cases_lt}
use Rattle.base_library.proofs.Passes.{passes_at}
use Rattle.tsl_text.specs.Lines.{lines_from}
use Rattle.tsl_text.specs.Written.{is_line}
use Rattle.line_formats.specs.Format.{fits}
use Rattle.line_formats.specs.Machine.{read_from, IsText, IsFirstWrong}
use Rattle.line_formats.proofs.FormatLaws.{line_read, print_is_line}
use Rattle.line_formats.proofs.MachineLaws.{Goes, ends_by, fault_is_first}
use Rattle.cobuchi_automata.specs.Automata.{EdgeTree}
use Rattle.automaton_text.specs.HoaText.{number_bound, is_quotable, IsHoa, state_text, bits_text}
use Rattle.automaton_text.specs.HoaLines.{PartValue, leaves, word_line, states_line, bits_line, state_line, body_line, quoted_name}
use Rattle.automaton_text.specs.HoaLines.{line_value, line_text, Head, says, counts, lists, header, State, fresh, when, states_step, bits_step}
use Rattle.automaton_text.specs.HoaLines.{head_step, body_step, step_at, step, whole}
use Rattle.automaton_text.proofs.BitLines.{law}
use Rattle.automaton_text.proofs.HoaLabels.{states_print, state_print, bits_print, as_quoted, names_are, quoted_fit}
use Rattle.automaton_text.proofs.HoaSteps.{Holds, holds_first, kept, head_text, head_within}

pub when_true : (b : Bool) (s : State) → b ≡ true → when b s ≡ Some s
when_true b s h = ap (λ t. when t s) h

-- ---- lines of the header

says_is_line : (k : ℕ) (w : List ℕ) → slice_get header k ≡ Some (says w) → is_line w ≡ true
says_is_line k w at = passes_at words_are header k (says w) refl at where
  words_are : Head → Bool
  words_are (says word) = is_line word
  words_are counts = true
  words_are lists = true

-- the state after a line of the header
abbrev pub head_after : State → List (List ℕ) → ℕ → Head → State
head_after s names states (says w) = record s { passed = suc s.passed }
head_after s names states counts = record s { passed = suc s.passed; states = states }
head_after s names states lists = record s { passed = suc s.passed; names = names; bits = length names }

module _ (s : State) (names : List (List ℕ)) (states : ℕ) (edges : List EdgeTree) (open' : s.ended ≡ false)
    (is : IsHoa names states edges) where
  at_head : (h : Head) → slice_get header s.passed ≡ Some h → step s (head_text names states h) ≡ head_step s h (head_text names states h)
  at_head h here = λ i. step_at (open' i) (here i) s (head_text names states h)

  bits_fit : fits PartValue leaves bits_line (length names, (as_quoted names, tt)) ≡ true
  bits_fit =
      and_from (ltb (length names) number_bound) (list_all (fits PartValue leaves quoted_name) (as_quoted names) && true)
      (lt-ltb (length names) number_bound is.few_bits)
      (and_from (list_all (fits PartValue leaves quoted_name) (as_quoted names)) true
      (quoted_fit (as_quoted names) ∙ ap (list_all is_quotable) (names_are names) ∙ is.plain) refl)

  states_fit : fits PartValue leaves states_line (states, tt) ≡ true
  states_fit = and_from (ltb states number_bound) true (lt-ltb states number_bound is.few_states) refl

  bits_text_is : line_text bits_line (length names, (as_quoted names, tt)) ≡ bits_text names
  bits_text_is =
      bits_print (length names, (as_quoted names, tt)) (ap length (sym (names_are names))) ∙ ap bits_text (names_are names)

  pub head_goes : (h : Head) → slice_get header s.passed ≡ Some h →
      step s (head_text names states h) ≡ Some (head_after s names states h)
  head_goes (says w) here =
      at_head (says w) here
      ∙ ap (option_and_then (λ v. Some (record s { passed = suc s.passed })))
      (ap (line_value (word_line w)) (sym (append-nil w))
      ∙ line_read PartValue leaves law (word_line w) refl tt refl)
  head_goes counts here =
      at_head counts here
      ∙ ap (head_step s counts) (sym (states_print states))
      ∙ ap (option_and_then (states_step s)) (line_read PartValue leaves law states_line refl (states, tt) states_fit)
      ∙ when_true (ltb 0 states) (record s { passed = suc s.passed; states = states })
      (lt-ltb 0 states (let some = is.some_state in omega (arith, some)))
  head_goes lists here =
      at_head lists here
      ∙ ap (head_step s lists) (sym bits_text_is)
      ∙ ap (option_and_then (bits_step s))
      (line_read PartValue leaves law bits_line refl (length names, (as_quoted names, tt)) bits_fit)
      ∙ ap (λ ns. when (length names == length ns) (record s { passed = suc s.passed; names = ns; bits = length ns })) (names_are names)
      ∙ when_true (length names == length names) (record s { passed = suc s.passed; names = names; bits = length names })
      (eq-eqb (length names) (length names) refl)

  pub head_is_line : (h : Head) → slice_get header s.passed ≡ Some h → is_line (head_text names states h) ≡ true
  head_is_line (says w) here = says_is_line s.passed w here
  head_is_line counts here =
      ap is_line (sym (states_print states)) ∙ print_is_line PartValue leaves law states_line refl (states, tt) states_fit
  head_is_line lists here =
      ap is_line (sym bits_text_is)
      ∙ print_is_line PartValue leaves law bits_line refl (length names, (as_quoted names, tt)) bits_fit

-- ---- lines of states, and the last one

module _ (s : State) (open' : s.ended ≡ false) (past : slice_get header s.passed ≡ None) where
  in_body : (bytes : List ℕ) → step s bytes
      ≡ option_and_then (body_step s) (line_value body_line bytes)
  in_body bytes = λ i. step_at (open' i) (past i) s bytes

  pub state_goes : s.begun < s.states → s.states < number_bound → step s (state_text s.begun) ≡ Some (record s { begun = suc s.begun })
  state_goes below few =
      in_body (state_text s.begun)
      ∙ ap (λ zs. option_and_then (body_step s) (line_value body_line zs)) (sym (state_print s.begun))
      ∙ ap (option_and_then (body_step s))
      (line_read PartValue leaves law body_line refl (inr (inl (s.begun, tt)))
      (and_from (ltb s.begun number_bound) true (lt-ltb s.begun number_bound (omega (arith, below, few))) refl))
      ∙ when_true ((s.begun == s.begun) && ltb s.begun s.states) (record s { begun = suc s.begun })
      (and_from (s.begun == s.begun) (ltb s.begun s.states) (eq-eqb s.begun s.begun refl) (lt-ltb s.begun s.states below))

  pub end_goes : s.begun ≡ s.states → step s (codes "--END--") ≡ Some (record s { ended = true })
  end_goes all =
      in_body (codes "--END--")
      ∙ ap (option_and_then (body_step s)) (line_read PartValue leaves law body_line refl (inr (inr tt)) refl)
      ∙ when_true (s.begun == s.states) (record s { ended = true }) (eq-eqb s.begun s.states all)

pub state_is_line : (q : ℕ) → q < number_bound → is_line (state_text q) ≡ true
state_is_line q few =
    ap is_line (sym (state_print q))
    ∙ print_is_line PartValue leaves law state_line refl (q, tt)
    (and_from (ltb q number_bound) true (lt-ltb q number_bound few) refl)

-- ---- the first wrong line

abbrev left : Bool → ℕ
left ended = if ended then 0 else 1

abbrev measure : State → ℕ
measure s = (7 - s.passed) + ((s.states - s.begun) + left s.ended)

goes : (s : State) → Holds s → (whole s ≡ true) ⊎ Goes step whole Holds measure s
goes s h = by_end s.ended refl where
  by_head : s.ended ≡ false → (hd : Head) → slice_get header s.passed ≡ Some hd → Goes step whole Holds measure s
  by_head open' hd here =
      let within = head_within s.passed hd here in record {
        line = head_text s.names s.states hd;
        next = head_after s s.names s.states hd;
        is = head_is_line s s.names s.states s.edges open' h.told hd here;
        steps_to = head_goes s s.names s.states s.edges open' h.told hd here;
        less = less hd within;
      }
    where
      less : (hd : Head) → s.passed < 7 → measure (head_after s s.names s.states hd) < measure s
      less (says w) within = omega (arith, within)
      less counts within = omega (arith, within)
      less lists within = omega (arith, within)

  by_body : s.ended ≡ false → slice_get header s.passed ≡ None → (s.begun < s.states) ⊎ (s.states ≤ s.begun) → Goes step whole Holds measure s
  by_body open' past (inl below) = record {
    line = state_text s.begun;
    next = record s { begun = suc s.begun };
    is = state_is_line s.begun (let few = h.told.few_states in omega (arith, below, few));
    steps_to = state_goes s open' past below h.told.few_states;
    less = omega (arith, below);
  }
  by_body open' past (inr above) = record {
    line = codes "--END--";
    next = record s { ended = true };
    is = refl;
    steps_to = end_goes s open' past (let most = h.begun in omega (arith, above, most));
    less = subst (λ b. (7 - s.passed) + ((s.states - s.begun) + 0) < (7 - s.passed) + ((s.states - s.begun) + left b)) (sym open') (omega arith);
  }

  by_place : s.ended ≡ false → (o : Option Head) → slice_get header s.passed ≡ o → Goes step whole Holds measure s
  by_place open' (Some hd) e = by_head open' hd e
  by_place open' None e = by_body open' e (cases_lt s.begun s.states)

  by_end : (b : Bool) → s.ended ≡ b → (whole s ≡ true) ⊎ Goes step whole Holds measure s
  by_end true e = inl e
  by_end false e = inr (by_place e (slice_get header s.passed) refl)

pub ends : (s : State) → Holds s → (ls : List (List ℕ)) × (t : State) × IsText step whole s ls t
ends s h = ends_by step whole Holds measure kept goes (suc (measure s)) s (omega arith) h

pub first_wrong_line : (text : List ℕ) (line : ℕ) → read_from step whole fresh 1 (lines_from 1 text) ≡ Err line →
    IsFirstWrong step whole fresh text line
first_wrong_line text line h =
    fault_is_first step whole fresh Holds (record { first = holds_first; kept = kept; ends = ends }) text line h
