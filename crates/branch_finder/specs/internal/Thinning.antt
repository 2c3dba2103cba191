-- Internal: only private functions of this crate use these words.
-- Windows with updates and equalities of one path, from which some are left out.
use Rattle.std.specs.Prelude.{◌≡◌, ℕ, ◌<◌, ◌≤◌, true, List, [], ◌∷◌, Option, Some, slice_get, ⊤, IsTrue}
use Rattle.std.specs.Prelude.{length as count_of}
use Rattle.std.specs.List.{AllByRecursion}
use Rattle.base_library.specs.Numbers.{is_among}
use Rattle.tsl_terms.specs.TermTree.{ProbeTree}
use Rattle.tsl_terms.specs.WindowTree.{ListedTree, EquatedTree, WindowTree}
use Rattle.tsl_terms.specs.Congruence.{IsCongruent}
use Rattle.program_tree.specs.Fits.{comes_before, are_in_order, left_is_shaped}
use Rattle.ltl_formula.specs.Cubes.{has_bit}
use Rattle.letter_space.specs.SpaceTree.{SpaceTree}
use Rattle.machines.specs.MachineTree.{EnvironmentTree}
use Rattle.branch_finder.specs.Spurious.{IsOneOf, IsSpurious}
use Rattle.branch_finder.specs.Finding.{IsWindowWithin, without_update, without_equality}

-- an update of a cell, one of those of the vector at its offset, from a first offset on and before a last one
pub record IsOwn (space : SpaceTree) (cells : List ℕ) (vector : ℕ → ℕ) (first last : ℕ) (u : ListedTree) : Type 0 where
  pub among : is_among cells u.signal ≡ true
  pub from : first ≤ u.offset
  pub before : u.offset < last
  pub one : IsOneOf space (vector u.offset) u

-- each update comes before all later ones
abbrev pub AllRise : List ℕ → List ListedTree → Type 0
AllRise cells [] = ⊤
AllRise cells (u ∷ us) = AllByRecursion (λ v. comes_before cells u v ≡ true) us × AllRise cells us

-- an equality whose bit a print has at its offset, from a first offset on and before a last one
pub record IsOwnEquality (probes : List ProbeTree) (print : ℕ → ℕ) (first last : ℕ) (q : EquatedTree) : Type 0 where
  pub bit : ℕ
  pub is_bit : slice_get probes bit ≡ Some q.probe
  pub from : first ≤ q.offset
  pub before : q.offset < last
  pub has : has_bit bit (print q.offset) ≡ true

-- A congruent spurious window of a length, in the order of programs: an answer but for what it lists too many.
pub record IsCandidate (space : SpaceTree) (e : EnvironmentTree) (cells : List ℕ) (equality : Option ℕ) (length : ℕ)
    (w : WindowTree) : Type 0 where
  pub long : w.length ≡ length
  pub within : IsWindowWithin cells length w
  pub left_shaped : IsTrue (left_is_shaped w.left w.left_at)
  pub rise : AllRise cells w.updates
  pub in_order : IsTrue (are_in_order w.equalities)
  pub congruent : IsCongruent cells equality w
  pub spurious : IsSpurious space e w

-- without any update from a place on, a window is not congruent
abbrev pub AreNeededFrom : List ℕ → Option ℕ → ℕ → WindowTree → Type 0
AreNeededFrom cells equality first w =
    (place : ℕ) → first ≤ place → place < count_of w.updates → IsCongruent cells equality (without_update place w) → ⊥

-- without any equality from a place on, a window is not congruent
abbrev pub AreEqualitiesNeededFrom : List ℕ → Option ℕ → ℕ → WindowTree → Type 0
AreEqualitiesNeededFrom cells equality first w =
    (place : ℕ) → first ≤ place → place < count_of w.equalities → IsCongruent cells equality (without_equality place w) → ⊥
