-- Internal: circuits as texts that are read line by line: the formats of the lines, and which line may come next.
use Rattle.std.specs.Prelude.{ℕ, ◌+◌, ◌*◌, ◌^◌, ◌==◌, nat_lt, Bool, true, false, ◌&&◌, List, [], ◌∷◌, ◌++◌, length, Option, Some, None}
use Rattle.std.specs.Prelude.{option_and_then, codes, if◌then◌else◌}
use Rattle.line_formats.specs.Format.{Format, nothing, fixed, leaf, Leaf, Value, value_of_line, print}
use Rattle.line_formats.specs.Leaves.{number}
use Rattle.circuits.specs.Circuits.{GateTree, CircuitTree}

-- ---- lines

abbrev pub Part : Type 0
Part = Unit {0}

abbrev pub Numbers : Part → Type 0
Numbers i = ℕ

abbrev pub leaves : (i : Part) → Leaf ℕ
leaves i = number

abbrev pub one : Format Part
one = leaf tt nothing

abbrev pub and_one : Format Part → Format Part
and_one f = leaf tt (fixed (codes " ") f)

abbrev pub two : Format Part
two = and_one one

abbrev pub three : Format Part
three = and_one two

abbrev pub header : Format Part
header = fixed (codes "aag ") (and_one (and_one three))

abbrev pub line_value : (f : Format Part) → List ℕ → Option (Value Numbers f)
line_value f line = value_of_line Numbers leaves f line

abbrev pub line_text : (f : Format Part) → Value Numbers f → List ℕ
line_text f v = print Numbers leaves f v

-- ---- which line may come next

-- how many of each the header tells
pub record Told : Type 0 where
  pub inputs : ℕ
  pub latches : ℕ
  pub outputs : ℕ
  pub gates : ℕ

abbrev pub told_variables : Told → ℕ
told_variables t = t.inputs + t.latches + t.gates

-- what is known of the circuit: before the header, or after it
pub data State : Type 0 where
  unbegun : CircuitTree → State
  going : Told → CircuitTree → State

abbrev pub none_yet : CircuitTree
none_yet = record { inputs = 0; latches = []; outputs = []; gates = [] }

abbrev pub fresh : State
fresh = unbegun none_yet

-- a literal of one of the variables up to this one
abbrev pub is_literal : ℕ → ℕ → Bool
is_literal most literal = nat_lt literal (2 * (most + 1))

abbrev pub when : Bool → State → Option State
when test s = if test then Some s else None

abbrev pub can_be_told : ℕ → Told → Bool
can_be_told most t = (told_variables t == most) && (nat_lt most (2 ^ 31) && nat_lt t.outputs (2 ^ 32))

abbrev pub told_in : Value Numbers header → Told
told_in v = record { inputs = v.1.0; latches = v.1.1.0; outputs = v.1.1.1.0; gates = v.1.1.1.1.0 }

abbrev pub header_step : CircuitTree → Value Numbers header → Option State
header_step c v = when (can_be_told v.0 (told_in v)) (going (told_in v) c)

abbrev pub with_input : CircuitTree → CircuitTree
with_input c = record c { inputs = c.inputs + 1 }

abbrev pub with_latch : CircuitTree → ℕ → CircuitTree
with_latch c next = record c { latches = c.latches ++ next ∷ [] }

abbrev pub with_output : CircuitTree → ℕ → CircuitTree
with_output c literal = record c { outputs = c.outputs ++ literal ∷ [] }

abbrev pub with_gate : CircuitTree → GateTree → CircuitTree
with_gate c g = record c { gates = c.gates ++ g ∷ [] }

abbrev pub input_step : Told → CircuitTree → Value Numbers one → Option State
input_step t c v = when (v.0 == 2 * (c.inputs + 1)) (going t (with_input c))

abbrev pub latch_step : Told → CircuitTree → Value Numbers two → Option State
latch_step t c v =
    when ((v.0 == 2 * (t.inputs + length c.latches + 1)) && is_literal (told_variables t) v.1.0) (going t (with_latch c v.1.0))

abbrev pub output_step : Told → CircuitTree → Value Numbers one → Option State
output_step t c v = when (is_literal (told_variables t) v.0) (going t (with_output c v.0))

-- a gate joins literals of smaller variables
abbrev pub gate_step : Told → CircuitTree → Value Numbers three → Option State
gate_step t c v =
    when ((v.0 == 2 * (t.inputs + t.latches + length c.gates + 1)) && (nat_lt v.1.0 v.0 && nat_lt v.1.1.0 v.0))
    (going t (with_gate c (record { left = v.1.0; right = v.1.1.0 })))

-- which kind of line comes next
pub data Kind : Type 0 where
  an_input : Kind
  a_latch : Kind
  an_output : Kind
  a_gate : Kind
  no_line : Kind

abbrev pub first_left : Bool → Bool → Bool → Bool → Kind
first_left inputs latches outputs gates =
    if inputs then an_input else if latches then a_latch else if outputs then an_output else if gates then a_gate else no_line

abbrev pub kind_of : Told → CircuitTree → Kind
kind_of t c =
    first_left (nat_lt c.inputs t.inputs) (nat_lt (length c.latches) t.latches) (nat_lt (length c.outputs) t.outputs)
    (nat_lt (length c.gates) t.gates)

abbrev pub step_of : Kind → Told → CircuitTree → List ℕ → Option State
step_of an_input t c line = option_and_then (input_step t c) (line_value one line)
step_of a_latch t c line = option_and_then (latch_step t c) (line_value two line)
step_of an_output t c line = option_and_then (output_step t c) (line_value one line)
step_of a_gate t c line = option_and_then (gate_step t c) (line_value three line)
step_of no_line t c line = None

abbrev pub step : State → List ℕ → Option State
step (unbegun c) line = option_and_then (header_step c) (line_value header line)
step (going t c) line = step_of (kind_of t c) t c line

abbrev pub is_no_line : Kind → Bool
is_no_line no_line = true
is_no_line _ = false

abbrev pub whole : State → Bool
whole (unbegun c) = false
whole (going t c) = is_no_line (kind_of t c)
