-- The bits of predicate terms, updates and atoms.
use Rattle.std.specs.Prelude.{ℕ, ◌+◌, ◌==◌, List, Option, option_map, option_and_then, position, find, IsSome}
use Rattle.std.specs.List.{AllByRecursion}
use Rattle.tsl_terms.specs.TermTree.{TermTree, ProbeTree}
use Rattle.tsl_terms.specs.FormulaTree.{Atom, test, update, FormulaTree}
use Rattle.tsl_terms.specs.Atoms.{atoms}
use Rattle.tsl_terms.specs.SameTree.{same_tree, same_probe_tree}
use Rattle.letter_space.specs.SpaceTree.{ControlledTree, SpaceTree}

-- the bit of a predicate term: its place
abbrev pub bit_of_probe : SpaceTree → ProbeTree → Option ℕ
bit_of_probe space probe = position (λ p. same_probe_tree p probe) space.predicates

-- the bit of a term among the choices of a signal
abbrev pub bit_of_choice : ControlledTree → TermTree → Option ℕ
bit_of_choice c term = option_map (λ k. c.first + k) (position (λ t. same_tree t term) c.choices)

-- the choices of a signal
abbrev pub controlled_with : List ControlledTree → ℕ → Option ControlledTree
controlled_with controlled s = find (λ c. c.signal == s) controlled

-- the bit of an update
abbrev pub bit_of_update : SpaceTree → ℕ → TermTree → Option ℕ
bit_of_update space s term = option_and_then (λ c. bit_of_choice c term) (controlled_with space.controlled s)

-- the bit of an atom
abbrev pub bit_of_atom : SpaceTree → Atom → Option ℕ
bit_of_atom space (test probe) = bit_of_probe space probe
bit_of_atom space (update s term) = bit_of_update space s term

-- each atom of a formula has a bit
abbrev pub HasBits : SpaceTree → FormulaTree → Type 0
HasBits space formula = AllByRecursion (λ a. IsSome (bit_of_atom space a)) (atoms formula)
