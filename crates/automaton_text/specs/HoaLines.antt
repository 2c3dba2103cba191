-- The lines of an automaton's text: their formats, and which line may come next.
use Rattle.std.specs.Prelude.{ℕ, suc, ◌-◌, ◌==◌, nat_lt, nat_le, Bool, true, false, ◌&&◌, List, [], ◌∷◌, ◌++◌, length, map, Option, Some, None, slice_get}
use Rattle.std.specs.Prelude.{option_map, option_and_then, codes, if◌then◌else◌}
use Rattle.std.proofs.Common.{inl, inr}
use Rattle.line_formats.specs.Format.{Bytes, Format, nothing, fixed, leaf, many, choice, Leaf, Value, value_of_line, print, fits, read, starts, takes}
use Rattle.line_formats.specs.Leaves.{number, run}
use Rattle.letter_space.specs.Letters.{with_bit}
use Rattle.cobuchi_automata.specs.Automata.{EdgeTree}
use Rattle.automaton_text.specs.HoaText.{quotable}

-- ---- labels

abbrev pub One : Type 0
One = Unit {0}

abbrev pub Numbers : One → Type 0
Numbers i = ℕ

abbrev pub number_leaves : (i : One) → Leaf ℕ
number_leaves i = number

-- a bit that is not to be set, or one that is
abbrev pub literal_line : Format One
literal_line = choice (fixed (codes "!") (leaf tt nothing)) (leaf tt nothing)

abbrev pub LiteralValue : Type 0
LiteralValue = Value Numbers literal_line

-- a literal as a part of a line
abbrev pub literal : Leaf LiteralValue
literal = record {
  print = print Numbers number_leaves literal_line;
  fits = fits Numbers number_leaves literal_line;
  read = read Numbers number_leaves literal_line;
  starts = starts Numbers number_leaves literal_line;
  takes = takes Numbers number_leaves literal_line;
  empty = false;
}

abbrev pub Literals : One → Type 0
Literals i = LiteralValue

abbrev pub literal_leaves : (i : One) → Leaf LiteralValue
literal_leaves i = literal

abbrev pub next_literal : Format One
next_literal = fixed (codes "&") (leaf tt nothing)

abbrev pub more_literals : Format One
more_literals = many next_literal nothing

abbrev pub label_line : Format One
label_line = choice (fixed (codes "t") nothing) (leaf tt more_literals)

-- a bit, and whether it is to be set
pub record LiteralTree : Type 0 where
  pub bit : ℕ
  pub wanted : Bool

abbrev pub literal_of : LiteralValue → LiteralTree
literal_of (inl v) = record { bit = v.0; wanted = false }
literal_of (inr v) = record { bit = v.0; wanted = true }

abbrev pub further_literals : Value Literals more_literals → List LiteralTree
further_literals v = map (λ m. literal_of m.0) v.0

abbrev pub literals_of : Value Literals label_line → List LiteralTree
literals_of (inl v) = []
literals_of (inr v) = literal_of v.0 ∷ further_literals v.1

-- the literals of a label
abbrev pub literals_in : List ℕ → Option (List LiteralTree)
literals_in bytes = option_map literals_of (value_of_line Literals literal_leaves label_line bytes)

-- the bits rise, the first is not below `least`, and all are below `bits`
abbrev pub rise : ℕ → ℕ → List LiteralTree → Bool
rise bits least [] = true
rise bits least (l ∷ ls) = (nat_le least l.bit && nat_lt l.bit bits) && rise bits (suc l.bit) ls

-- the bits that literals ask for, beside others
abbrev pub care_with : ℕ → List LiteralTree → ℕ
care_with care [] = care
care_with care (l ∷ ls) = care_with (with_bit care l.bit) ls

abbrev pub with_wanted : ℕ → LiteralTree → ℕ
with_wanted want l = if l.wanted then with_bit want l.bit else want

-- those of them that are to be set
abbrev pub want_with : ℕ → List LiteralTree → ℕ
want_with want [] = want
want_with want (l ∷ ls) = want_with (with_wanted want l) ls

-- ---- lines

-- A number, what stands between quotes, and what stands between brackets.
pub data Part : Type 0 where
  counted : Part
  quoted : Part
  inside : Part

abbrev pub PartValue : Part → Type 0
PartValue counted = ℕ
PartValue quoted = List ℕ
PartValue inside = List ℕ

abbrev pub any : List ℕ → Bool
any bytes = true

-- all bytes but closing brackets and line feeds
abbrev pub within_brackets : Bytes
within_brackets = (0, 9) ∷ (11, 92) ∷ (94, 255) ∷ []

abbrev pub leaves : (i : Part) → Leaf (PartValue i)
leaves counted = number
leaves quoted = run quotable any
leaves inside = run within_brackets any

abbrev pub word_line : List ℕ → Format Part
word_line word = fixed word nothing

abbrev pub states_line : Format Part
states_line = fixed (codes "States: ") (leaf counted nothing)

abbrev pub quoted_name : Format Part
quoted_name = fixed (codes " \"") (leaf quoted (fixed (codes "\"") nothing))

abbrev pub bit_texts : Format Part
bit_texts = many quoted_name nothing

abbrev pub bits_line : Format Part
bits_line = fixed (codes "AP: ") (leaf counted bit_texts)

abbrev pub mark : Format Part
mark = choice (fixed (codes " {0}") nothing) nothing

abbrev pub edge_line : Format Part
edge_line = fixed (codes "[") (leaf inside (fixed (codes "] ") (leaf counted mark)))

abbrev pub state_line : Format Part
state_line = fixed (codes "State: ") (leaf counted nothing)

abbrev pub end_line : Format Part
end_line = fixed (codes "--END--") nothing

-- the lines after the header
abbrev pub body_line : Format Part
body_line = choice edge_line (choice state_line end_line)

abbrev pub line_value : (f : Format Part) → List ℕ → Option (Value PartValue f)
line_value f bytes = value_of_line PartValue leaves f bytes

abbrev pub line_text : (f : Format Part) → Value PartValue f → List ℕ
line_text f v = print PartValue leaves f v

-- ---- which line may come next

-- A line of the header: these very words, how many states there are, or what the bits are called.
pub data Head : Type 0 where
  says : List ℕ → Head
  counts : Head
  lists : Head

abbrev pub header : List Head
header =
    says (codes "HOA: v1") ∷ counts ∷ says (codes "Start: 0") ∷ lists ∷ says (codes "acc-name: Buchi")
    ∷ says (codes "Acceptance: 1 Inf(0)") ∷ says (codes "--BODY--") ∷ []

-- What the lines so far say: how many lines of the header were read, how many states there are (one, as long as it is not said),
-- what the bits are called and how many they are, how many states were begun, and the edges.
pub record State : Type 0 where
  pub passed : ℕ
  pub states : ℕ
  pub names : List (List ℕ)
  pub bits : ℕ
  pub begun : ℕ
  pub edges : List EdgeTree
  pub ended : Bool

abbrev pub fresh : State
fresh = record { passed = 0; states = 1; names = []; bits = 0; begun = 0; edges = []; ended = false }

abbrev pub when : Bool → State → Option State
when test s = if test then Some s else None

abbrev pub states_step : State → Value PartValue states_line → Option State
states_step s v = when (nat_lt 0 v.0) (record s { passed = suc s.passed; states = v.0 })

abbrev pub quoted_names : Value PartValue bit_texts → List (List ℕ)
quoted_names v = map (λ n. n.0) v.0

abbrev pub bits_step : State → Value PartValue bits_line → Option State
bits_step s v =
    when (v.0 == length (quoted_names v.1))
    (record s { passed = suc s.passed; names = quoted_names v.1; bits = length (quoted_names v.1) })

abbrev pub head_step : State → Head → List ℕ → Option State
head_step s (says word) bytes = option_and_then (λ v. Some (record s { passed = suc s.passed })) (line_value (word_line word) bytes)
head_step s counts bytes = option_and_then (states_step s) (line_value states_line bytes)
head_step s lists bytes = option_and_then (bits_step s) (line_value bits_line bytes)

abbrev pub is_marked : Value PartValue mark → Bool
is_marked (inl v) = true
is_marked (inr v) = false

-- the edge from the state that was begun last
abbrev pub edge_with : State → List LiteralTree → ℕ → Bool → EdgeTree
edge_with s literals to rejecting = record {
  from = s.begun - 1;
  care = care_with 0 literals;
  want = want_with 0 literals;
  to = to;
  rejecting = rejecting;
}

-- whether an edge may stand here: a state was begun, both are states, and its literals are in order
abbrev pub may_join : State → List LiteralTree → ℕ → Bool
may_join s literals to = (nat_lt 0 s.begun && nat_le s.begun s.states) && (nat_lt to s.states && rise s.bits 0 literals)

abbrev pub edge_step : State → Value PartValue edge_line → Option State
edge_step s v =
    option_and_then
    (λ literals. when (may_join s literals v.1.0)
    (record s { edges = s.edges ++ edge_with s literals v.1.0 (is_marked v.1.1) ∷ [] }))
    (literals_in v.0)

abbrev pub state_step : State → Value PartValue state_line → Option State
state_step s v = when ((v.0 == s.begun) && nat_lt v.0 s.states) (record s { begun = suc s.begun })

abbrev pub end_step : State → Value PartValue end_line → Option State
end_step s v = when (s.begun == s.states) (record s { ended = true })

abbrev pub body_step : State → Value PartValue body_line → Option State
body_step s (inl v) = edge_step s v
body_step s (inr (inl v)) = state_step s v
body_step s (inr (inr v)) = end_step s v

abbrev pub step_at : Bool → Option Head → State → List ℕ → Option State
step_at true head s bytes = None
step_at false None s bytes = option_and_then (body_step s) (line_value body_line bytes)
step_at false (Some head) s bytes = head_step s head bytes

abbrev pub step : State → List ℕ → Option State
step s bytes = step_at s.ended (slice_get header s.passed) s bytes

abbrev pub whole : State → Bool
whole s = s.ended
