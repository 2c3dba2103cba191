-- Internal: only private functions of this crate use these words.
-- Values of terms along a path, under one reading of all functions and of all signals at steps: what unfolds to one free term has one
-- value. The reading is a number that is mixed from those of the parts.
use Rattle.std.specs.Prelude.{◌≡◌, ℕ, zero, suc, ◌+◌, ◌*◌, ◌/◌, ◌%◌, ◌^◌, ◌==◌, ◌<◌, ◌≤◌, List, [], ◌∷◌, map, Option, Some, None, slice_get}
use Rattle.std.specs.Prelude.{if◌then◌else◌}
use Rattle.std.specs.Prelude.{length as count_of}
use Rattle.tsl_terms.specs.TermTree.{TermTree, signal, apply, TermTrees, no_terms, more_terms, ProbeTree}
use Rattle.tsl_terms.specs.Unfolding.{term_taken_by_cell}
use Rattle.letter_space.specs.SpaceTree.{SpaceTree}
use Rattle.machines.specs.MachineTree.{EnvironmentTree}
use Rattle.branch_finder.specs.internal.Sets.{set_of}
use Rattle.branch_finder.specs.internal.Paths.{PairTree, updates_along, IsToldApart}

-- a number of 64 bits with another one mixed in
unfoldable pub mixed : ℕ → ℕ → ℕ
mixed a b =
    let sum = ((a * 0x9e37_79b9_7f4a_7c15) % 2 ^ 64 + b) % 2 ^ 64 in
    (sum * (((sum + sum) % 2 ^ 64 + 1) % 2 ^ 64)) % 2 ^ 64

-- the value of a signal at a step, where it takes no term at the step before
abbrev pub leaf_value : ℕ → ℕ → ℕ
leaf_value step s = mixed (mixed 0 s) step

-- the value of a term, and what a number becomes where the values of terms are mixed in
abbrev mutual
  pub value_by : (ℕ → ℕ) → TermTree → ℕ
  value_by at (signal s) = at s
  value_by at (apply f arguments) = values_by at (mixed 1 f) arguments

  pub values_by : (ℕ → ℕ) → ℕ → TermTrees → ℕ
  values_by at seed no_terms = seed
  values_by at seed (more_terms t ts) = values_by at (mixed seed (value_by at t)) ts

-- the value of a predicate term
abbrev pub probe_value : (ℕ → ℕ) → ProbeTree → ℕ
probe_value at p = values_by at (mixed 2 p.predicate) p.arguments

-- the value of a signal at a step by the term that it takes at the step before, where it takes one
abbrev pub value_after : (ℕ → ℕ) → ℕ → ℕ → Option TermTree → ℕ
value_after before step s None = leaf_value step s
value_after before step s (Some term) = value_by before term

-- the value of a signal at a step, where a function says which term a signal takes at a step
abbrev pub signal_value : (ℕ → ℕ → Option TermTree) → ℕ → ℕ → ℕ
signal_value taken zero s = leaf_value 0 s
signal_value taken (suc t) s = value_after (signal_value taken t) (suc t) s (taken t s)

-- the value of a signal at a step, where those of cells are given
abbrev pub value_in : List ℕ → List ℕ → ℕ → ℕ → ℕ
value_in [] values step s = leaf_value step s
value_in (c ∷ cells) [] step s = leaf_value step s
value_in (c ∷ cells) (v ∷ values) step s = if c == s then v else value_in cells values step s

-- the value of a signal at a step of a path
abbrev pub value_along : SpaceTree → List ℕ → List ℕ → ℕ → ℕ → ℕ
value_along space cells path = signal_value (term_taken_by_cell cells (updates_along space.controlled cells 0 path))

-- the values of the predicate terms at a step of a path
abbrev pub values_along : SpaceTree → List ℕ → List ℕ → ℕ → List ℕ
values_along space cells path step = map (probe_value (value_along space cells path step)) space.predicates

-- The values of the predicate terms at the first so many steps of a path, one step after the other.
pub record AreValues (space : SpaceTree) (cells path : List ℕ) (steps : ℕ) (values : List ℕ) : Type 0 where
  pub size : count_of values ≡ steps * count_of space.predicates
  pub each : (step i value : ℕ) → step < steps → slice_get (values_along space cells path step) i ≡ Some value
      → slice_get values (step * count_of space.predicates + i) ≡ Some value

-- the pair of the predicate term whose value stands at a place of these and of one at the last step
abbrev pub pair_at : SpaceTree → ℕ → ℕ → PairTree
pair_at space place right =
    record { left_at = place / count_of space.predicates; left = place % count_of space.predicates; right = right }

-- A pair of bits looks seen on a path: their predicate terms have one value, and sets and prints tell the pair apart.
pub record LooksSeen (space : SpaceTree) (e : EnvironmentTree) (cells : List ℕ) (mask : ℕ) (path prints : List ℕ) (pair : PairTree)
    : Type 0 where
  pub within : pair.left_at ≤ count_of path
  pub value : ℕ
  pub left : slice_get (values_along space cells path pair.left_at) pair.left ≡ Some value
  pub right : slice_get (values_along space cells path (count_of path)) pair.right ≡ Some value
  pub told : IsToldApart space e mask (map (set_of space cells) path) prints pair
