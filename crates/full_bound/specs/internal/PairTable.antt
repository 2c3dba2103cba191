-- Internal: only private functions and proofs of this crate use these words.
-- The steps between pairs as they are listed.
use Rattle.std.specs.Prelude.{ℕ, ◌/◌, ◌%◌, ◌==◌, cond, List, [], map}
use Rattle.cobuchi_automata.specs.Automata.{EdgeTree}
use Rattle.machines.specs.Moves.{MoveTree}
use Rattle.annotation_check.specs.Annotations.{edges_from}
use Rattle.full_bound.specs.declared.search.Step.{Step}
use Rattle.full_bound.specs.declared.pair_steps.TheConstants.{MOST_CONTROLLER_STATES}
use Rattle.full_bound.specs.internal.Pairs.{PairStep, pair_after, steps_between}

-- how many states a controller may have whose pairs are searched
abbrev pub most_controller_states : ℕ
most_controller_states = MOST_CONTROLLER_STATES

-- a step between pairs as it is listed
abbrev pub listed_step : ℕ → PairStep → Step
listed_step states s = record { letter = s.move.letter; to = pair_after states s; rejecting = s.edge.rejecting }

-- the steps from a pair that are by the moves of one state, and so none from a pair of another state
abbrev pub steps_of_state : ℕ → ℕ → List MoveTree → List EdgeTree → ℕ → List Step
steps_of_state states state ms es p = cond (p / states == state)
    (map (listed_step states) (steps_between ms (edges_from es (p % states)))) []
