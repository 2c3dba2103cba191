-- What is written and what is left make the whole.
use Rattle.std.proofs.Common.{◌≡◌, ◌++◌, map, flat_map, drop}
use Rattle.tsl_terms.specs.WindowTree.{window_tree}
use Rattle.term_text.specs.WindowText.{window_text}
use Rattle.flow_program.proofs.writing.put_windows.Given as goal

abbrev pub invariant-loop-window : goal.invariant-loop-window
invariant-loop-window l =
    l.out.items ++ flat_map (window_text l.names) (map window_tree (drop l.window-index l.windows)) ≡ l.fn.out.items
    ++ flat_map (window_text l.names) (map window_tree l.windows)
