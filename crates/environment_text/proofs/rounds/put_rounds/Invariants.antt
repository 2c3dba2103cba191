-- What is written and what is left make the whole.
use Rattle.std.proofs.Common.{◌≡◌, ◌++◌, map, drop}
use Rattle.letter_space.specs.SpaceView.{space_tree}
use Rattle.machines.specs.MachineView.{round_tree}
use Rattle.environment_text.specs.RoundTexts.{rounds_text, rounds_text_from}
use Rattle.environment_text.proofs.rounds.put_rounds.Given as goal

abbrev pub invariant-loop-number : goal.invariant-loop-number
invariant-loop-number l =
    l.out.items ++ rounds_text_from l.names (space_tree l.space) l.number (map round_tree (drop l.number l.rounds))
    ≡ l.fn.out.items ++ rounds_text l.names (space_tree l.space) (map round_tree l.rounds)
