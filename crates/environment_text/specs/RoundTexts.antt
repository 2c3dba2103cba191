-- How the rounds of a search are written: for each its number, its environment, and the line of its window.
-- This format is the project's own.
use Rattle.std.specs.Prelude.{ℕ, suc, List, [], ◌∷◌, ◌++◌, codes, IsTrue}
use Rattle.std.specs.List.{AllByRecursion}
use Rattle.tsl_terms.specs.Name.{Name}
use Rattle.term_text.specs.WindowText.{window_text, window_is_held}
use Rattle.letter_space.specs.SpaceTree.{SpaceTree}
use Rattle.machines.specs.Moves.{EnvironmentFits}
use Rattle.machines.specs.Rounds.{RoundTree}
use Rattle.environment_text.specs.EnvironmentText.{count_line, environment_text, space_is_held}

-- the round of this number: the environment that won, and the window that was added to rule it out
abbrev pub round_text : List Name → SpaceTree → ℕ → RoundTree → List ℕ
round_text names space i r =
    count_line (codes "round") i ++ environment_text names space r.environment ++ window_text names r.window

-- rounds, the first of which has this number
abbrev pub rounds_text_from : List Name → SpaceTree → ℕ → List RoundTree → List ℕ
rounds_text_from names space i [] = []
rounds_text_from names space i (r ∷ rs) = round_text names space i r ++ rounds_text_from names space (suc i) rs

abbrev pub rounds_text : List Name → SpaceTree → List RoundTree → List ℕ
rounds_text names space rounds = rounds_text_from names space 0 rounds

-- A round can be written: its environment fits the space, and each number of its window is that of a name.
pub record RoundIsHeld (names : List Name) (space : SpaceTree) (r : RoundTree) : Type 0 where
  pub fits : EnvironmentFits space r.environment
  pub window : IsTrue (window_is_held names r.window)

-- rounds over a space can be written
pub record RoundsAreHeld (names : List Name) (space : SpaceTree) (made : List RoundTree) : Type 0 where
  pub terms : IsTrue (space_is_held names space)
  pub rounds : AllByRecursion (RoundIsHeld names space) made
