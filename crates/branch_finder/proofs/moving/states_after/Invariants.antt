use Rattle.std.proofs.Common.{◌≡◌, ℕ, map, drop, length}
use Rattle.std.specs.Prelude.{◌↔◌}
use Rattle.letter_space.specs.SpaceView.{space_tree}
use Rattle.machines.specs.MachineView.{environment_tree}
use Rattle.branch_finder.specs.internal.Sets.{numbered_set}
use Rattle.branch_finder.specs.internal.Planes.{words_of, ComesFrom}
use Rattle.branch_finder.proofs.moving.states_after.Given as goal

-- what is led to along the sets and prints that are left is what is led to along all
abbrev pub invariant-loop-step : goal.invariant-loop-step
invariant-loop-step l = (length l.states.items ≡ words_of l.search.environment.now.states)
    × ((t : ℕ) → ComesFrom (space_tree l.search.space.now) (environment_tree l.search.environment.now) l.search.mask
    (map (numbered_set (space_tree l.search.space.now) l.search.cells.now l.search.firsts.now) (drop l.step l.numbers))
    (drop l.step l.prints) l.states.items t
    ↔ ComesFrom (space_tree l.search.space.now) (environment_tree l.search.environment.now) l.search.mask
    (map (numbered_set (space_tree l.search.space.now) l.search.cells.now l.search.firsts.now) l.numbers) l.prints l.plane t)
