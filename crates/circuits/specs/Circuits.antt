-- Circuits of gates and latches. The variables are the inputs, the latches and the gates, numbered from 1 in this order.
-- Literal 2v is variable v, 2v + 1 its negation, 0 is false and 1 is true. Each gate is the conjunction of two literals.
-- Source: Biere, Heljanko, Wieringa: AIGER 1.9 And Beyond (2011).
use Rattle.std.specs.Prelude.{◌≡◌, ℕ, ◌+◌, ◌*◌, ◌/◌, ◌%◌, ◌<◌, ◌^◌, ◌==◌, Bool, false, not, ◌&&◌, List, [], ◌∷◌, ◌++◌, length, map, Some, slice_get, get_or}
use Rattle.std.specs.Prelude.{if◌then◌else◌}

-- the two literals that a gate joins
pub record GateTree : Type 0 where
  pub left : ℕ
  pub right : ℕ

-- how many inputs there are, the next literal of each latch, the literal of each output, and the gates
pub record CircuitTree : Type 0 where
  pub inputs : ℕ
  pub latches : List ℕ
  pub outputs : List ℕ
  pub gates : List GateTree

-- how many variables there are
abbrev pub variables : CircuitTree → ℕ
variables c = c.inputs + length c.latches + length c.gates

-- a literal of one of the variables up to this one
abbrev pub IsLiteral : ℕ → ℕ → Type 0
IsLiteral most literal = literal < 2 * (most + 1)

abbrev pub AreLiterals : ℕ → List ℕ → Type 0
AreLiterals most literals = (i literal : ℕ) → slice_get literals i ≡ Some literal → IsLiteral most literal

-- A circuit: literals are those of its variables, a gate joins literals of smaller variables, all literals are below 2^32, and so
-- is the number of outputs.
pub record IsCircuit (c : CircuitTree) : Type 0 where
  pub latches : AreLiterals (variables c) c.latches
  pub outputs : AreLiterals (variables c) c.outputs
  pub gates : (k : ℕ) (g : GateTree) → slice_get c.gates k ≡ Some g
      → IsLiteral (c.inputs + length c.latches + k) g.left × IsLiteral (c.inputs + length c.latches + k) g.right
  pub few_variables : variables c < 2 ^ 31
  pub few_outputs : length c.outputs < 2 ^ 32

-- the truth of a literal, where that of each variable is known, variable 0 being false
abbrev pub truth : List Bool → ℕ → Bool
truth known literal = if (literal % 2) == 1 then not (get_or known (literal / 2) false) else get_or known (literal / 2) false

-- the truths of all variables, from those of the first ones on: a gate is true where both its literals are
abbrev pub with_gates : List Bool → List GateTree → List Bool
with_gates known [] = known
with_gates known (g ∷ gs) = with_gates (known ++ (truth known g.left && truth known g.right) ∷ []) gs

-- the truths of all variables under inputs and latches
abbrev pub truths_of : CircuitTree → List Bool → List Bool → List Bool
truths_of c inputs latches = with_gates (false ∷ (inputs ++ latches)) c.gates

-- a step: what the outputs are, and what the latches are next. Latches start false.
abbrev pub outputs_of : CircuitTree → List Bool → List Bool → List Bool
outputs_of c inputs latches = map (truth (truths_of c inputs latches)) c.outputs

abbrev pub next_of : CircuitTree → List Bool → List Bool → List Bool
next_of c inputs latches = map (truth (truths_of c inputs latches)) c.latches
