-- Loops of letters as texts: the formats of their lines, and which line may come next.
use Rattle.std.specs.Prelude.{ℕ, suc, ◌<◌, nat_lt, nat_le, Bool, true, ◌&&◌, List, [], ◌∷◌, ◌++◌, length, map, Option, Some, None}
use Rattle.std.specs.Prelude.{option_and_then, is_some, codes, IsTrue, if◌then◌else◌}
use Rattle.std.proofs.Common.{inl, inr}
use Rattle.std.specs.List.{list_all}
use Rattle.tsl_text.specs.Written.{text_of_lines}
use Rattle.line_formats.specs.Format.{Format, nothing, fixed, leaf, many, choice, Leaf, Value, value_of_line, print}
use Rattle.line_formats.specs.Leaves.{number}

-- ---- lines

abbrev pub Part : Type 0
Part = Unit {0}

abbrev pub Numbers : Part → Type 0
Numbers i = ℕ

abbrev pub leaves : (i : Part) → Leaf ℕ
leaves i = number

abbrev pub spaced : Format Part
spaced = fixed (codes " ") (leaf tt nothing)

abbrev pub numbers : Format Part
numbers = many spaced nothing

-- `letter` and the numbers of its true propositions
abbrev pub letter_line : Format Part
letter_line = fixed (codes "letter") numbers

-- `back` and the number of the letter, from 0, to which the last one goes on
abbrev pub back_line : Format Part
back_line = fixed (codes "back ") (leaf tt nothing)

abbrev pub line : Format Part
line = choice letter_line back_line

abbrev pub line_value : (f : Format Part) → List ℕ → Option (Value Numbers f)
line_value f bytes = value_of_line Numbers leaves f bytes

abbrev pub line_text : (f : Format Part) → Value Numbers f → List ℕ
line_text f v = print Numbers leaves f v

-- ---- loops of letters

-- Of each letter the propositions that are true in it, and the letter to which the last one goes on.
pub record LoopTree : Type 0 where
  pub letters : List (List ℕ)
  pub back : ℕ

-- the numbers rise, the first is not below `least`, and all are below `bits`
abbrev pub rise : ℕ → ℕ → List ℕ → Bool
rise bits least [] = true
rise bits least (n ∷ ns) = (nat_le least n && nat_lt n bits) && rise bits (suc n) ns

abbrev pub IsLoop : ℕ → LoopTree → Type 0
IsLoop bits loop = IsTrue (list_all (rise bits 0) loop.letters) × (loop.back < length loop.letters)

abbrev pub as_members : List ℕ → List (ℕ × Unit {0})
as_members ns = map (λ n. (n, tt)) ns

abbrev pub letter_text : List ℕ → List ℕ
letter_text ns = line_text letter_line (as_members ns, tt)

abbrev pub back_text : ℕ → List ℕ
back_text back = line_text back_line (back, tt)

-- the lines of a loop
abbrev pub loop_lines : LoopTree → List (List ℕ)
loop_lines loop = map letter_text loop.letters ++ back_text loop.back ∷ []

abbrev pub loop_text : LoopTree → List ℕ
loop_text loop = text_of_lines (loop_lines loop)

-- ---- which line may come next

-- what the lines so far say of a loop of letters over so many propositions
pub record State : Type 0 where
  pub bits : ℕ
  pub letters : List (List ℕ)
  pub back : Option ℕ

abbrev pub fresh : ℕ → State
fresh bits = record { bits = bits; letters = []; back = None }

abbrev pub when : Bool → State → Option State
when test s = if test then Some s else None

abbrev pub true_numbers : List (ℕ × Unit {0}) → List ℕ
true_numbers v = map (λ n. n.0) v

abbrev pub letter_step : State → Value Numbers letter_line → Option State
letter_step s v = when (rise s.bits 0 (true_numbers v.0)) (record s { letters = s.letters ++ true_numbers v.0 ∷ [] })

abbrev pub back_step : State → Value Numbers back_line → Option State
back_step s v = when (nat_lt v.0 (length s.letters)) (record s { back = Some v.0 })

abbrev pub next : State → Value Numbers line → Option State
next s (inl v) = letter_step s v
next s (inr v) = back_step s v

abbrev pub step_from : Option ℕ → State → List ℕ → Option State
step_from (Some back) s bytes = None
step_from None s bytes = option_and_then (next s) (line_value line bytes)

abbrev pub step : State → List ℕ → Option State
step s bytes = step_from s.back s bytes

abbrev pub whole : State → Bool
whole s = is_some s.back
