-- The windows of the rounds that were passed are copied.
use Rattle.std.proofs.Common.{◌≡◌, map, take}
use Rattle.tsl_terms.specs.WindowTree.{window_tree}
use Rattle.machines.specs.MachineView.{round_tree}
use Rattle.machines.specs.Rounds.{windows_of}
use Rattle.refinement_loop.proofs.turning.windows_in.Given as goal

abbrev pub invariant-loop-round : goal.invariant-loop-round
invariant-loop-round l = map window_tree l.windows.items ≡ windows_of (map round_tree (take l.round-index l.rounds))
