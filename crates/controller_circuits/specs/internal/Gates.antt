-- Gates over variables that stand before them, while they are made.
use Rattle.std.specs.Prelude.{◌≡◌, ℕ, ◌+◌, ◌≤◌, Bool, false, List, ◌∷◌, length, map}
use Rattle.circuits.specs.Circuits.{GateTree, IsLiteral, with_gates, truth}
use Rattle.circuits.specs.GateView.{gate_tree}
use Rattle.controller_circuits.specs.declared.gates.Gates.{Gates}

-- how many variables stand before the gates, and the gates
pub record GatesTree : Type 0 where
  pub before : ℕ
  pub gates : List GateTree

abbrev pub gates_tree : Gates → GatesTree
gates_tree g = record { before = g.before; gates = map gate_tree g.made.keys }

-- how many variables there are
abbrev pub variables_so_far : GatesTree → ℕ
variables_so_far g = g.before + length g.gates

-- the truth of a literal where the variables before the gates have these truths
abbrev pub value : GatesTree → List Bool → ℕ → Bool
value g bits literal = truth (with_gates (false ∷ bits) g.gates) literal

-- gates that have become these: each literal has the truth that it had
pub record Becomes (old new : GatesTree) : Type 0 where
  pub before : new.before ≡ old.before
  pub longer : length old.gates ≤ length new.gates
  pub keeps : (bits : List Bool) → length bits ≡ old.before → (literal : ℕ) → IsLiteral (variables_so_far old) literal
      → value new bits literal ≡ value old bits literal

-- gates that have become these by so many gates more at most, and a literal of them that means this by the truths of older ones
pub record GivesLiteral (old new : GatesTree) (most literal : ℕ) (meaning : (ℕ → Bool) → Bool) : Type 0 where
  pub becomes : Becomes old new
  pub few : length new.gates ≤ length old.gates + most
  pub is_literal : IsLiteral (variables_so_far new) literal
  pub means : (bits : List Bool) → length bits ≡ old.before → value new bits literal ≡ meaning (value old bits)
