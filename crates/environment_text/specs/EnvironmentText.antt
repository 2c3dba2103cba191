-- How an environment is written: how many states it has, the predicate terms and the vectors by their numbers, and for each state what
-- is true there and which state it goes to under each vector. Each member of a list has a space before it.
-- This format is the project's own.
use Rattle.std.specs.Prelude.{ℕ, suc, Bool, true, false, ◌&&◌, List, [], ◌∷◌, ◌++◌, length, flat_map, slice_get, codes, decimal}
use Rattle.std.specs.List.{list_all, range_with_len}
use Rattle.std.specs.Option.{option_map_or}
use Rattle.tsl_terms.specs.Name.{Name}
use Rattle.tsl_terms.specs.TermTree.{ProbeTree}
use Rattle.term_text.specs.TermText.{probe_text, update_text, is_held, term_is_held, probe_is_held}
use Rattle.ltl_formula.specs.Cubes.{has_bit}
use Rattle.letter_space.specs.SpaceTree.{ControlledTree, SpaceTree}
use Rattle.letter_space.specs.Vectors.{picks_of}
use Rattle.machines.specs.MachineTree.{EnvironmentTree, successor_at}

-- a line of a word and a number
abbrev pub count_line : List ℕ → ℕ → List ℕ
count_line word count = word ++ codes " " ++ decimal count ++ codes "\n"

-- 1 where it holds
abbrev pub bit_text : Bool → List ℕ
bit_text true = codes "1"
bit_text false = codes "0"

-- the line of the predicate term whose bit has this number
abbrev pub test_line : List Name → ℕ → ProbeTree → List ℕ
test_line names i p = codes "test " ++ decimal i ++ codes " " ++ probe_text names p ++ codes "\n"

-- the lines of predicate terms, the first of which has this number
abbrev pub tests_text : List Name → ℕ → List ProbeTree → List ℕ
tests_text names i [] = []
tests_text names i (p ∷ ps) = test_line names i p ++ tests_text names (suc i) ps

-- the choice of a signal with this number, as an update
abbrev pub picked_text : List Name → ControlledTree → ℕ → List ℕ
picked_text names c pick = option_map_or (λ t. codes " " ++ update_text names c.signal t) (slice_get c.choices pick) []

-- a choice of each signal
abbrev pub picks_text : List Name → List ControlledTree → List ℕ → List ℕ
picks_text names (c ∷ cs) (pick ∷ picks) = picked_text names c pick ++ picks_text names cs picks
picks_text names [] picks = []
picks_text names (c ∷ cs) [] = []

-- the line of the vector with this number: what it picks
abbrev pub vector_line : List Name → List ControlledTree → ℕ → List ℕ
vector_line names controlled v =
    codes "vector " ++ decimal v ++ picks_text names controlled (picks_of controlled v) ++ codes "\n"

-- the truth of each of so many predicate terms
abbrev pub truths_text : ℕ → ℕ → List ℕ
truths_text tests truths = flat_map (λ b. codes " " ++ bit_text (has_bit b truths)) (range_with_len 0 tests)

-- the state to go to under the vector with this number
abbrev pub successor_text : EnvironmentTree → ℕ → ℕ → List ℕ
successor_text e s v = option_map_or (λ t. codes " " ++ decimal t) (successor_at e s v) []

-- the line of the state with this number, where there are so many predicate terms
abbrev pub state_line : ℕ → EnvironmentTree → ℕ → List ℕ
state_line tests e s =
    codes "state " ++ decimal s ++ codes " truths" ++ option_map_or (truths_text tests) (slice_get e.truths s) []
    ++ codes " to" ++ flat_map (successor_text e s) (range_with_len 0 e.vectors) ++ codes "\n"

abbrev pub environment_text : List Name → SpaceTree → EnvironmentTree → List ℕ
environment_text names space e =
    count_line (codes "environment") e.states
    ++ tests_text names 0 space.predicates
    ++ flat_map (vector_line names space.controlled) (range_with_len 0 e.vectors)
    ++ flat_map (state_line (length space.predicates) e) (range_with_len 0 e.states)

-- each number of a signal and of its choices is that of a name
abbrev pub controlled_is_held : List Name → ControlledTree → Bool
controlled_is_held names c = is_held names c.signal && list_all (term_is_held names) c.choices

-- each number of a space's terms is that of a name
abbrev pub space_is_held : List Name → SpaceTree → Bool
space_is_held names space =
    list_all (probe_is_held names) space.predicates && list_all (controlled_is_held names) space.controlled
