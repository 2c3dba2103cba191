-- Spurious windows: those whose sides an environment tells apart on some path that has the listed updates and equalities.
-- Source: Finkbeiner, Klein, Piskac, Santolucito: Temporal Stream Logic: Synthesis Beyond the Bools (CAV 2019), the refinement of
-- the underapproximation; listed equalities and windows without a left probe are this project's own.
use Rattle.std.specs.Prelude.{◌≡◌, ℕ, suc, ◌<◌, Bool, true, false, not, Option, Some, None, slice_get}
use Rattle.std.specs.List.{AllByRecursion}
use Rattle.tsl_terms.specs.TermTree.{ProbeTree}
use Rattle.tsl_terms.specs.WindowTree.{ListedTree, WindowTree}
use Rattle.ltl_formula.specs.Cubes.{has_bit}
use Rattle.letter_space.specs.SpaceTree.{SpaceTree}
use Rattle.letter_space.specs.Letters.{term_taken}
use Rattle.letter_space.specs.Vectors.{picks_of}
use Rattle.machines.specs.MachineTree.{EnvironmentTree, successor_at}
use Rattle.machines.specs.Visits.{IsVisited}

-- an update is one of those of a vector: the choice that the vector picks for its signal is its term
abbrev pub IsOneOf : SpaceTree → ℕ → ListedTree → Type 0
IsOneOf space vector u = term_taken space.controlled (picks_of space.controlled vector) u.signal ≡ Some u.term

-- in a state a probe has this truth: it is a predicate term of the space, whose bit stands so in what is true there
pub record IsTruthAt (space : SpaceTree) (e : EnvironmentTree) (state : ℕ) (probe : ProbeTree) (truth : Bool) : Type 0 where
  pub bit : ℕ
  pub is_bit : slice_get space.predicates bit ≡ Some probe
  pub truths : ℕ
  pub are_truths : slice_get e.truths state ≡ Some truths
  pub stands : has_bit bit truths ≡ truth

-- In the states of a path, of the left probe at its step and the right one at the last step one alone is true; or, where there is no
-- left probe, the right one is false.
abbrev pub SidesDiffer : SpaceTree → EnvironmentTree → (ℕ → ℕ) → WindowTree → Option ProbeTree → Type 0
SidesDiffer space e state w (Some left) =
    (b : Bool) × IsTruthAt space e (state w.left_at) left b × IsTruthAt space e (state w.length) w.right (not b)
SidesDiffer space e state w None = IsTruthAt space e (state w.length) w.right false

-- There is a path of as many vectors as the window is long, from a state that the environment visits, such that each listed update
-- is one of those of the vector at its offset, each listed equality is true in the state at its offset, and the sides differ.
pub record IsSpurious (space : SpaceTree) (e : EnvironmentTree) (w : WindowTree) : Type 0 where
  pub state : ℕ → ℕ
  pub vector : ℕ → ℕ
  pub visited : IsVisited e (state 0)
  pub steps : (t : ℕ) → t < w.length → successor_at e (state t) (vector t) ≡ Some (state (suc t))
  pub listed : AllByRecursion (λ u. IsOneOf space (vector u.offset) u) w.updates
  pub equal : AllByRecursion (λ q. IsTruthAt space e (state q.offset) q.probe true) w.equalities
  pub differ : SidesDiffer space e state w w.left
