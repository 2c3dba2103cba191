-- The pure value of a machine.
use Rattle.std.specs.Prelude.{map}
use Rattle.machines.specs.declared.controller.Entry.{Entry}
use Rattle.machines.specs.declared.controller.Controller.{Controller}
use Rattle.machines.specs.declared.environment.Environment.{Environment}
use Rattle.machines.specs.declared.moves.Move.{Move}
use Rattle.machines.specs.declared.rounds.Round.{Round}
use Rattle.tsl_terms.specs.WindowTree.{window_tree}
use Rattle.machines.specs.MachineTree.{EntryTree, ControllerTree, EnvironmentTree}
use Rattle.machines.specs.Moves.{MoveTree}
use Rattle.machines.specs.Rounds.{RoundTree}

abbrev pub entry_tree : Entry → EntryTree
entry_tree e = record { choices = e.choices; next = e.next }

abbrev pub controller_tree : Controller → ControllerTree
controller_tree c = record { states = c.states; valuations = c.valuations; entries = map entry_tree c.entries }

abbrev pub environment_tree : Environment → EnvironmentTree
environment_tree e = record { states = e.states; vectors = e.vectors; truths = e.truths; next = e.next }

abbrev pub move_tree : Move → MoveTree
move_tree m = record { letter = m.letter; next = m.next }

abbrev pub round_tree : Round → RoundTree
round_tree r = record { environment = environment_tree r.environment; window = window_tree r.window }
