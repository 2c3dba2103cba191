-- What a reader keeps of what the lines say is enough to tell which line may come next.
use Rattle.std.proofs.Common.{◌≡◌, ◌∙◌, ℕ, suc, ◌+◌, ◌==◌, Bool, true, false, ◌&&◌, ltb, List, [], ◌∷◌, ◌++◌, length, Option, Some, None}
use Rattle.std.proofs.Common.{Result, Ok, Err, slice_get, refl, sym, ap, inl, inr}
use Rattle.std.specs.Prelude.{option_map, option_and_then, if◌then◌else◌}
use Rattle.tsl_text.specs.Lines.{NumberedLine, lines_from}
use Rattle.line_formats.specs.Format.{Value}
use Rattle.line_formats.specs.Machine.{read_from, or_wrong, where_ended}
use Rattle.line_formats.proofs.MachineLaws.{read_is_text, holds_after}
use Rattle.cobuchi_automata.specs.Automata.{EdgeTree}
use Rattle.automaton_text.specs.HoaText.{IsHoaText}
use Rattle.automaton_text.specs.HoaLines.{PartValue, states_line, bits_line, body_line, word_line, line_value}
use Rattle.automaton_text.specs.HoaLines.{quoted_names, is_marked, literals_in, Head, says, counts, lists, header, State, fresh, when}
use Rattle.automaton_text.specs.HoaLines.{edge_with, may_join, body_step}
use Rattle.automaton_text.specs.HoaLines.{step_at, step, whole}
use Rattle.automaton_text.specs.HoaView.{are_few, kept, kept_step}
use Rattle.automaton_text.proofs.HoaSteps.{Holds, holds_first, kept as holds_kept, head_within, told}

-- in the header there is no edge
dropped : (few after : Bool) (es : List EdgeTree) → es ≡ [] → (if after then (if few then es else []) else []) ≡ (if after then es else [])
dropped true after es none = refl
dropped false after es none = ap (λ es. if after then es else []) (sym none)

pub twice : (b : Bool) (es : List EdgeTree) → (if b then (if b then es else []) else []) ≡ (if b then es else [])
twice true es = refl
twice false es = refl

pub pushed : (b : Bool) (es : List EdgeTree) (e : EdgeTree) → (if b then ((if b then es else []) ++ e ∷ []) else []) ≡ (if b then es ++ e ∷ [] else [])
pushed true es e = refl
pushed false es e = refl

-- where each value leads to states of which the same is kept
alike : {V : Type 0} (f g : V → Option State) → ((v : V) → option_map kept (f v) ≡ option_map kept (g v)) → (o : Option V) →
    option_map kept (option_and_then f o) ≡ option_map kept (option_and_then g o)
alike f g same None = refl
alike f g same (Some v) = same v

alike_when : (b : Bool) (s t : State) → kept s ≡ kept t → option_map kept (when b s) ≡ option_map kept (when b t)
alike_when true s t same = ap Some same
alike_when false s t same = refl

module _ (s : State) (l : List ℕ) (h : Holds s) where
  abbrev few : Bool
  few = are_few s.bits s.states

  same_head : (states bits : ℕ) → s.edges ≡ [] → kept (record (kept s) { passed = suc s.passed; states = states; bits = bits })
      ≡ kept (record s { passed = suc s.passed; states = states; bits = bits })
  same_head states bits none = λ i. record s {
    passed = suc s.passed;
    states = states;
    names = [];
    bits = bits;
    edges = dropped few (are_few bits states) s.edges none i;
  }

  same_body : (v : Value PartValue body_line) → option_map kept (body_step (kept s) v) ≡ option_map kept (body_step s v)
  same_body (inl v) =
      alike _ _
      (λ ls. alike_when (may_join s ls v.1.0) _ _
      (λ i. record s { names = []; edges = pushed few s.edges (edge_with s ls v.1.0 (is_marked v.1.1)) i })) (literals_in v.0)
  same_body (inr (inl v)) =
      alike_when ((v.0 == s.begun) && ltb v.0 s.states) _ _ (λ i. record s { begun = suc s.begun; names = []; edges = twice few s.edges i })
  same_body (inr (inr v)) = alike_when (s.begun == s.states) _ _ (λ i. record s { ended = true; names = []; edges = twice few s.edges i })

  same_at : (b : Bool) (o : Option Head) → slice_get header s.passed ≡ o →
      option_map kept (step_at b o (kept s) l) ≡ option_map kept (step_at b o s l)
  same_at true o e = refl
  same_at false None e = alike (body_step (kept s)) (body_step s) same_body (line_value body_line l)
  same_at false (Some (says w)) e =
      alike _ _ (λ v. ap Some (same_head s.states s.bits (h.in_header (head_within s.passed (says w) e)).1)) (line_value (word_line w) l)
  same_at false (Some counts) e =
      alike _ _ (λ v. alike_when (ltb 0 v.0) _ _ (same_head v.0 s.bits (h.in_header (head_within s.passed counts e)).1))
      (line_value states_line l)
  same_at false (Some lists) e =
      alike _ _
      (λ v. alike_when (v.0 == length (quoted_names v.1)) _ _
      (same_head s.states (length (quoted_names v.1)) (h.in_header (head_within s.passed lists e)).1))
      (line_value bits_line l)

  -- what was read is kept alike
  pub kept_same : kept_step (kept s) l ≡ option_map kept (step s l)
  kept_same = same_at s.ended (slice_get header s.passed) refl

abbrev pub kept_answer : Result State ℕ → Result State ℕ
kept_answer (Ok t) = Ok (kept t)
kept_answer (Err line) = Err line

-- the reader reads what the lines say
pub read_kept : (ls : List NumberedLine) (s : State) (n : ℕ) → Holds s →
    read_from kept_step whole (kept s) n ls ≡ kept_answer (read_from step whole s n ls)
read_kept [] s n h = by s.ended where
  by : (b : Bool) → where_ended b n (Ok (kept s)) ≡ kept_answer (where_ended b n (Ok s))
  by true = refl
  by false = refl
read_kept (l ∷ ls) s n h =
    by_end l.ended (or_wrong n (kept_step (kept s) l.bytes) (λ t. read_from kept_step whole t (n + 1) ls))
    (or_wrong n (step s l.bytes) (λ t. read_from step whole t (n + 1) ls))
    (ap (λ o. or_wrong n o (λ t. read_from kept_step whole t (n + 1) ls)) (kept_same s l.bytes h)
    ∙ by (step s l.bytes) refl (λ t k. read_kept ls t (n + 1) k))
  where
    by : (o : Option State) → step s l.bytes ≡ o →
        ((t : State) → Holds t → read_from kept_step whole (kept t) (n + 1) ls ≡ kept_answer (read_from step whole t (n + 1) ls)) →
        or_wrong n (option_map kept o) (λ t. read_from kept_step whole t (n + 1) ls)
        ≡ kept_answer (or_wrong n o (λ t. read_from step whole t (n + 1) ls))
    by None e more = refl
    by (Some t) e more = more t (holds_kept s t l.bytes h e)

    by_end : (b : Bool) (r q : Result State ℕ) → r ≡ kept_answer q → where_ended b n r ≡ kept_answer (where_ended b n q)
    by_end true r q is = is
    by_end false r q is = refl

-- ---- the whole text

-- what a reader kept is of an automaton that the text tells
pub record IsRead (text : List ℕ) (k : State) : Type 0 where
  pub full : State
  pub is : kept full ≡ k
  pub told : IsHoaText text full.bits full.states full.edges
  pub holds : Holds full
  pub ended : full.ended ≡ true

pub is_read : (text : List ℕ) (k : State) → read_from kept_step whole (kept fresh) 1 (lines_from 1 text) ≡ Ok k → IsRead text k
is_read text k h =
    by (read_from step whole fresh 1 (lines_from 1 text)) refl (sym (read_kept (lines_from 1 text) fresh 1 holds_first) ∙ h)
  where
    by : (r : Result State ℕ) → read_from step whole fresh 1 (lines_from 1 text) ≡ r → kept_answer r ≡ Ok k → IsRead text k
    by (Err n) e f = absurd cc
    by (Ok t) e f =
        let same : kept t ≡ k = cc in
        let found = read_is_text step whole text fresh t e in record {
          full = t;
          is = same;
          told = told text t e;
          holds = holds_after step whole fresh Holds holds_kept found.0 t holds_first found.2.says;
          ended = found.2.done;
        }

pub is_wrong : (text : List ℕ) (line : ℕ) → read_from kept_step whole (kept fresh) 1 (lines_from 1 text) ≡ Err line →
    read_from step whole fresh 1 (lines_from 1 text) ≡ Err line
is_wrong text line h =
    by (read_from step whole fresh 1 (lines_from 1 text)) (sym (read_kept (lines_from 1 text) fresh 1 holds_first) ∙ h)
  where
    by : (r : Result State ℕ) → kept_answer r ≡ Err line → r ≡ Err line
    by (Err n) f = f
    by (Ok t) f = absurd cc
