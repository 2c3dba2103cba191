-- Which lists of gates are made, and negated literals.
use Rattle.std.specs.Prelude.{◌≡◌, ℕ, ◌+◌, ◌-◌, ◌%◌, ◌==◌, List, Some, slice_get}
use Rattle.std.specs.Prelude.{if◌then◌else◌}
use Rattle.circuits.specs.Circuits.{GateTree, IsLiteral}

-- over so many variables each gate joins literals of variables before it
abbrev pub AreGates : ℕ → List GateTree → Type 0
AreGates before gates = (k : ℕ) (g : GateTree) → slice_get gates k ≡ Some g
    → IsLiteral (before + k) g.left × IsLiteral (before + k) g.right

-- the negation of a literal
abbrev pub negated_literal : ℕ → ℕ
negated_literal literal = if (literal % 2) == 0 then literal + 1 else literal - 1
