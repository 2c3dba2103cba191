-- What is written and what is left make the whole.
use Rattle.std.proofs.Common.{◌≡◌, ◌++◌, map, drop}
use Rattle.letter_space.specs.ControlledView.{controlled_tree}
use Rattle.environment_text.specs.EnvironmentText.{picks_text}
use Rattle.environment_text.proofs.environment.put_picks.Given as goal

abbrev pub invariant-loop-place : goal.invariant-loop-place
invariant-loop-place l =
    l.out.items ++ picks_text l.names (map controlled_tree (drop l.place l.controlled)) (drop l.place l.picks)
    ≡ l.fn.out.items ++ picks_text l.names (map controlled_tree l.controlled) l.picks
