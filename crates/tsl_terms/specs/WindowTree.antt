-- Windows: what a program may be found under. A window whose two sides are one by what it lists holds in
-- every run.
-- Source: Finkbeiner, Klein, Piskac, Santolucito: Temporal Stream Logic: Synthesis Beyond the Bools
-- (CAV 2019), the refinement of the underapproximation.
use Rattle.std.specs.Prelude.{ℕ, zero, suc, List, [], ◌∷◌, ◌++◌, map, Option, Some, None, option_map}
use Rattle.tsl_terms.specs.declared.window.Listed.{Listed}
use Rattle.tsl_terms.specs.declared.window.Equated.{Equated}
use Rattle.tsl_terms.specs.declared.window.Window.{Window}
use Rattle.tsl_terms.specs.TermTree.{TermTree, ProbeTree, term_tree, probe_tree}
use Rattle.tsl_terms.specs.declared.operator.UnaryOperator.TheVariants.{Next, Globally}
use Rattle.tsl_terms.specs.declared.operator.BinaryOperator.TheVariants.{Implication, Equivalence}
use Rattle.tsl_terms.specs.FormulaTree.{Atom, FormulaTree, test, update, atom, unary, binary}
use Rattle.tsl_terms.specs.SpecTree.{conjunction_of}

-- an update that is listed at an offset from the window's first step
pub record ListedTree : Type 0 where
  pub signal : ℕ
  pub term : TermTree
  pub offset : ℕ

-- an equality that is listed at an offset
pub record EquatedTree : Type 0 where
  pub probe : ProbeTree
  pub offset : ℕ

-- the left probe at one step, or none, the right probe at the last step, and the updates and equalities on the way
pub record WindowTree : Type 0 where
  pub left : Option ProbeTree
  pub left_at : ℕ
  pub right : ProbeTree
  pub length : ℕ
  pub updates : List ListedTree
  pub equalities : List EquatedTree

abbrev pub listed_tree : Listed → ListedTree
listed_tree u = record { signal = u.signal; term = term_tree u.term; offset = u.offset }

abbrev pub equated_tree : Equated → EquatedTree
equated_tree e = record { probe = probe_tree e.probe; offset = e.offset }

abbrev pub window_tree : Window → WindowTree
window_tree w = record {
  left = option_map probe_tree w.left;
  left_at = w.left_at;
  right = probe_tree w.right;
  length = w.length;
  updates = map listed_tree w.updates;
  equalities = map equated_tree w.equalities;
}

-- a formula so many steps later
abbrev pub later : ℕ → FormulaTree → FormulaTree
later zero f = f
later (suc n) f = unary Next (later n f)

-- an update, as many steps later as its offset
abbrev pub listed_formula : ListedTree → FormulaTree
listed_formula u = later u.offset (atom (update u.signal u.term))

-- an equality, as many steps later as its offset
abbrev pub equated_formula : EquatedTree → FormulaTree
equated_formula e = later e.offset (atom (test e.probe))

-- the left probe at its step is as the right one at the last, or, without a left one, the right one holds there
abbrev pub side_formula : Option ProbeTree → ℕ → ProbeTree → ℕ → FormulaTree
side_formula (Some left) left_at right last = binary Equivalence (later left_at (atom (test left))) (later last (atom (test right)))
side_formula None left_at right last = later last (atom (test right))

-- always: if each listed update and each listed equality holds at its offset, then what the window says of its sides
abbrev pub window_formula_of : WindowTree → FormulaTree
window_formula_of w = unary Globally (binary Implication
    (conjunction_of (map listed_formula w.updates ++ map equated_formula w.equalities))
    (side_formula w.left w.left_at w.right w.length))

-- a formula under the assumption of windows, where there are some
abbrev pub under_windows : List WindowTree → FormulaTree → FormulaTree
under_windows [] f = f
under_windows (w ∷ ws) f = binary Implication (conjunction_of (map window_formula_of (w ∷ ws))) f

-- the left probe, where there is one
abbrev pub left_probes : Option ProbeTree → List ProbeTree
left_probes None = []
left_probes (Some left) = left ∷ []

-- what a window tests: its equalities in order, its left probe, where it has one, and its right probe
abbrev pub window_probes : WindowTree → List ProbeTree
window_probes w = map (λ e. e.probe) w.equalities ++ (left_probes w.left ++ w.right ∷ [])

-- the right probe, where there is no left one
abbrev pub right_alone : Option ProbeTree → ProbeTree → List ProbeTree
right_alone None right = right ∷ []
right_alone (Some left) right = []

-- the probes of a window that have to be equalities: the listed ones, and the right one where there is no left one
abbrev pub equality_probes : WindowTree → List ProbeTree
equality_probes w = map (λ e. e.probe) w.equalities ++ right_alone w.left w.right

-- what a window updates and tests: its listed updates in order, then what it tests
abbrev pub window_atoms : WindowTree → List Atom
window_atoms w = map (λ u. update u.signal u.term) w.updates ++ map test (window_probes w)
