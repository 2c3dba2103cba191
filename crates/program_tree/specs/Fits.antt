-- What every program keeps.
use Rattle.std.specs.Prelude.{◌≡◌, ℕ, ◌<◌, Bool, true, false, not, ◌&&◌, ◌||◌, ◌==◌, nat_le, nat_lt, List, [], ◌∷◌, length, slice_get}
use Rattle.std.specs.Prelude.{Option, Some, None, IsTrue, ◌+◌, ◌++◌}
use Rattle.std.specs.List.{list_all}
use Rattle.base_library.specs.Numbers.{is_among}
use Rattle.tsl_terms.specs.TermTree.{TermTree, ProbeTree, count_of_terms}
use Rattle.tsl_terms.specs.SameTree.{same_probe_tree}
use Rattle.tsl_terms.specs.OnlyThese.{reads_only, read_only}
use Rattle.tsl_terms.specs.WindowTree.{WindowTree, ListedTree, EquatedTree, window_probes, equality_probes}
use Rattle.program_tree.specs.declared.limits.TheConstants.{LONGEST_WINDOW}
use Rattle.program_tree.specs.NodeTree.{NodeTree, branch, assign}
use Rattle.program_tree.specs.ProgramTree.{ProgramTree}
use Rattle.base_library.specs.Numbers.{IsDistinct}

-- a test names smaller nodes, and reads these signals only
abbrev pub BranchesFit : List ℕ → List NodeTree → Type 0
BranchesFit readable nodes = (i a b : ℕ) (t : ProbeTree) → slice_get nodes i ≡ Some (branch t a b) →
    (a < i) × (b < i) × IsTrue (read_only readable t.arguments)

-- an assignment has so many terms, which read these signals only, and goes to one of so many states
abbrev pub AssignmentsFit : List ℕ → ℕ → ℕ → List NodeTree → Type 0
AssignmentsFit readable slots states nodes = (i go : ℕ) (ts : List TermTree) → slice_get nodes i ≡ Some (assign ts go) →
    (length ts ≡ slots) × (go < states) × IsTrue (list_all (reads_only readable) ts)

-- there is a state, and each names one of so many nodes
abbrev pub StatesFit : List ℕ → ℕ → Type 0
StatesFit states nodes = (0 < length states) × ((s i : ℕ) → slice_get states s ≡ Some i → i < nodes)

-- whether updates rise strictly by their offset, and at one offset by the cell's place among the cells
abbrev pub stands_before : List ℕ → ℕ → ℕ → Bool
stands_before [] r s = false
stands_before (c ∷ cs) r s = ((c == r) && is_among cs s) || stands_before cs r s

abbrev pub comes_before : List ℕ → ListedTree → ListedTree → Bool
comes_before cells u v =
    nat_lt u.offset v.offset || ((u.offset == v.offset) && stands_before cells u.signal v.signal)

abbrev pub rises : List ℕ → List ListedTree → Bool
rises cells [] = true
rises cells (u ∷ []) = true
rises cells (u ∷ v ∷ us) = comes_before cells u v && rises cells (v ∷ us)

-- the longest window
abbrev pub longest : ℕ
longest = LONGEST_WINDOW

-- whether an equality may stand behind another one: its offset is larger, or the same with another probe
abbrev pub may_follow : EquatedTree → EquatedTree → Bool
may_follow d e = nat_lt d.offset e.offset || ((d.offset == e.offset) && not (same_probe_tree d.probe e.probe))

-- whether the offsets of equalities do not fall, and none stands twice at one offset
abbrev pub are_in_order : List EquatedTree → Bool
are_in_order [] = true
are_in_order (e ∷ es) = list_all (may_follow e) es && are_in_order es

-- the listed equalities stand within the window, in order, and each probe that has to be an equality has two arguments
abbrev pub equalities_are_shaped : WindowTree → Bool
equalities_are_shaped w =
    (list_all (λ e. nat_le e.offset w.length) w.equalities && are_in_order w.equalities)
    && list_all (λ p. count_of_terms p.arguments == 2) (equality_probes w)

-- the left step is 0 where there is no left probe
abbrev pub left_is_shaped : Option ProbeTree → ℕ → Bool
left_is_shaped None left_at = left_at == 0
left_is_shaped (Some left) left_at = true

-- The length is at most 3, the left probe stands within it, and the listed updates are of cells, at offsets below the
-- length, in rising order. Without a left probe its step is 0. The equalities are shaped.
abbrev pub window_is_shaped : List ℕ → WindowTree → Bool
window_is_shaped cells w =
    ((nat_le w.length longest && nat_le w.left_at w.length)
    && (list_all (λ u. nat_lt u.offset w.length && is_among cells u.signal) w.updates && rises cells w.updates))
    && (left_is_shaped w.left w.left_at && equalities_are_shaped w)

-- probes and terms read these signals only
abbrev pub window_reads_only : List ℕ → WindowTree → Bool
window_reads_only readable w =
    list_all (λ p. read_only readable p.arguments) (window_probes w) && list_all (λ u. reads_only readable u.term) w.updates

abbrev pub window_fits : List ℕ → List ℕ → WindowTree → Bool
window_fits readable cells w = window_is_shaped cells w && window_reads_only readable w

-- what every program keeps
pub record IsProgram (p : ProgramTree) : Type 0 where
  pub signals_distinct : IsDistinct ((p.inputs ++ p.cells) ++ p.outputs)
  pub branches_fit : BranchesFit (p.inputs ++ p.cells) p.nodes
  pub assignments_fit : AssignmentsFit (p.inputs ++ p.cells) (length p.cells + length p.outputs) (length p.states) p.nodes
  pub states_fit : StatesFit p.states (length p.nodes)
  pub windows_fit : IsTrue (list_all (window_fits (p.inputs ++ p.cells) p.cells) p.windows)
