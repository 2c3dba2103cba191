-- The verdicts so far are those on the windows before.
use Rattle.std.proofs.Common.{◌≡◌, map, take}
use Rattle.tsl_terms.specs.WindowTree.{window_tree, window_formula_of}
use Rattle.tsl_meaning.specs.RunTree.{run_tree}
use Rattle.checking_commands.specs.internal.RunView.{meanings_read, verdicts_in}
use Rattle.checking_commands.proofs.verdicts.window_verdicts.Given as goal

abbrev pub invariant-loop-window : goal.invariant-loop-window
invariant-loop-window l =
    l.verdicts.items
    ≡ verdicts_in (meanings_read l.meaning) (run_tree (λ v. v) l.run) (map window_formula_of (map window_tree (take l.window-index l.windows)))
