-- Which programs can be written over a list of names, and the limits of programs.
use Rattle.std.specs.Prelude.{ℕ, ◌≤◌, Bool, ◌&&◌, nat_le, List, ◌++◌, length, IsTrue}
use Rattle.std.specs.List.{list_all, AllByRecursion}
use Rattle.tsl_terms.specs.declared.names.NameKind.TheVariants.{Signal}
use Rattle.tsl_terms.specs.Name.{Name, is_name}
use Rattle.tsl_terms.specs.TermTree.{TermTree, ProbeTree}
use Rattle.tsl_terms.specs.WellFormed.{is_usable_at, term_fits, probe_fits, brackets, brackets_of_arguments, deepest}
use Rattle.tsl_terms.specs.WindowTree.{WindowTree, ListedTree, window_probes, equality_probes}
use Rattle.tsl_terms.specs.Equality.{equality_in}
use Rattle.tsl_terms.specs.Congruence.{IsEquality}
use Rattle.program_tree.specs.declared.limits.TheConstants.{MOST_WINDOWS, MOST_NODES, MOST_STATES}
use Rattle.program_tree.specs.NodeTree.{NodeTree, branch, assign}
use Rattle.program_tree.specs.ProgramTree.{ProgramTree, controlled}

-- The names can be written: each number is that of a usable name in its kind and with its arity, or of
-- the test of a Boolean signal, and terms nest in brackets at most 200 deep.
abbrev pub signal_fits : List Name → ℕ → Bool
signal_fits names s = is_name names s Signal 0 && is_usable_at names s

abbrev pub term_is_writable : List Name → TermTree → Bool
term_is_writable names t = term_fits names t && nat_le (brackets t) deepest

abbrev pub probe_is_writable : List Name → ProbeTree → Bool
probe_is_writable names p = probe_fits names p && nat_le (brackets_of_arguments p.arguments) deepest

abbrev pub listed_is_writable : List Name → ListedTree → Bool
listed_is_writable names u = signal_fits names u.signal && term_is_writable names u.term

abbrev pub window_is_writable : List Name → WindowTree → Bool
window_is_writable names w = list_all (probe_is_writable names) (window_probes w) && list_all (listed_is_writable names) w.updates

-- each probe of a window that has to be an equality is one of the names
abbrev pub HasEqualities : List Name → WindowTree → Type 0
HasEqualities names w = AllByRecursion (IsEquality (equality_in names)) (equality_probes w)

abbrev pub node_is_writable : List Name → NodeTree → Bool
node_is_writable names (branch t then_node else_node) = probe_is_writable names t
node_is_writable names (assign ts go) = list_all (term_is_writable names) ts

-- the most windows, nodes and states of a program text
abbrev pub most_windows : ℕ
most_windows = MOST_WINDOWS

abbrev pub most_nodes : ℕ
most_nodes = MOST_NODES

abbrev pub most_states : ℕ
most_states = MOST_STATES

pub record IsWritable (names : List Name) (p : ProgramTree) : Type 0 where
  pub signals : IsTrue (list_all (signal_fits names) (p.inputs ++ controlled p))
  pub windows : IsTrue (list_all (window_is_writable names) p.windows)
  pub equalities : AllByRecursion (HasEqualities names) p.windows
  pub nodes : IsTrue (list_all (node_is_writable names) p.nodes)
  pub few_windows : length p.windows ≤ most_windows
  pub few_nodes : length p.nodes ≤ most_nodes
  pub few_states : length p.states ≤ most_states
