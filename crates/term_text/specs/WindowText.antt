-- How the line of a window is written: `window TEST at J is TEST at W`, or `window true is TEST at W` without a left test; then
-- ` when [NAME <- TERM] at O` for each listed update, ` when TEST at O` for each listed equality, and a line feed.
-- This format is the project's own.
use Rattle.std.specs.Prelude.{ℕ, Bool, ◌&&◌, List, ◌++◌, flat_map, codes, decimal, Option, Some, None}
use Rattle.std.specs.List.{list_all}
use Rattle.tsl_terms.specs.Name.{Name}
use Rattle.tsl_terms.specs.TermTree.{ProbeTree}
use Rattle.tsl_terms.specs.WindowTree.{WindowTree, ListedTree, EquatedTree, window_probes}
use Rattle.term_text.specs.TermText.{probe_text, update_text, is_held, term_is_held, probe_is_held}

-- the left test and its step, or `true`
abbrev pub left_text : List Name → Option ProbeTree → ℕ → List ℕ
left_text names (Some left) left_at = probe_text names left ++ codes " at " ++ decimal left_at
left_text names None left_at = codes "true"

abbrev pub listed_text : List Name → ListedTree → List ℕ
listed_text names u = codes " when " ++ update_text names u.signal u.term ++ codes " at " ++ decimal u.offset

abbrev pub equated_text : List Name → EquatedTree → List ℕ
equated_text names e = codes " when " ++ probe_text names e.probe ++ codes " at " ++ decimal e.offset

abbrev pub window_text : List Name → WindowTree → List ℕ
window_text names w =
    codes "window " ++ left_text names w.left w.left_at
    ++ codes " is " ++ probe_text names w.right ++ codes " at " ++ decimal w.length
    ++ flat_map (listed_text names) w.updates ++ flat_map (equated_text names) w.equalities ++ codes "\n"

-- each number of a window is that of a name
abbrev pub listed_is_held : List Name → ListedTree → Bool
listed_is_held names u = is_held names u.signal && term_is_held names u.term

abbrev pub window_is_held : List Name → WindowTree → Bool
window_is_held names w = list_all (probe_is_held names) (window_probes w) && list_all (listed_is_held names) w.updates
