-- How a run is written: a line for each position, the line of its loop, and a line for each verdict.
-- This format is the project's own.
use Rattle.std.specs.Prelude.{ℕ, suc, Bool, true, false, ◌&&◌, ◌==◌, List, [], ◌∷◌, ◌++◌, length, codes, decimal, IsTrue}
use Rattle.std.specs.List.{list_all}
use Rattle.tsl_terms.specs.Name.{Name}
use Rattle.term_text.specs.TermText.{name_text, is_held, term_is_held}
use Rattle.flow_program.specs.ProgramText.{updates_text}
use Rattle.tsl_meaning.specs.RunTree.{PositionTree, RunTree}

-- each signal and its value, a space before both
abbrev pub values_text : List Name → List ℕ → List ℕ → List ℕ
values_text names (s ∷ ss) (v ∷ vs) = codes " " ++ name_text names s ++ codes " " ++ decimal v ++ values_text names ss vs
values_text names [] vs = []
values_text names (s ∷ ss) [] = []

-- the number of a position, its place among the input rows and its state
abbrev pub place_line : ℕ → ℕ → ℕ → List ℕ
place_line t place state = codes "at " ++ decimal t ++ codes " place " ++ decimal place ++ codes " state " ++ decimal state

-- the line of the position of this number
abbrev pub position_text : List Name → RunTree ℕ → ℕ → PositionTree ℕ → List ℕ
position_text names run t p =
    place_line t p.place p.state
    ++ values_text names run.inputs p.row ++ values_text names run.cells p.cells
    ++ codes " do" ++ updates_text names (run.cells ++ run.outputs) p.updates ++ codes "\n"

-- the lines of positions, the first of which has this number
abbrev pub positions_text : List Name → RunTree ℕ → ℕ → List (PositionTree ℕ) → List ℕ
positions_text names run t [] = []
positions_text names run t (p ∷ ps) = position_text names run t p ++ positions_text names run (suc t) ps

abbrev pub loop_text : ℕ → ℕ → List ℕ
loop_text start count = codes "loop " ++ decimal start ++ codes " " ++ decimal count ++ codes "\n"

abbrev pub verdict_word : Bool → List ℕ
verdict_word true = codes " holds\n"
verdict_word false = codes " fails\n"

-- the formula, or the window of this number
abbrev pub subject_text : Bool → ℕ → List ℕ
subject_text true i = codes "formula"
subject_text false i = codes "window " ++ decimal i

abbrev pub verdict_text : Bool → ℕ → Bool → List ℕ
verdict_text is_formula i holds = subject_text is_formula i ++ verdict_word holds

-- The lines of verdicts, the first of which has this number. The last one is that on the formula, where there is one,
-- and all others are those on windows.
abbrev pub verdicts_text : Bool → ℕ → List Bool → List ℕ
verdicts_text has_formula i [] = []
verdicts_text has_formula i (v ∷ vs) =
    verdict_text (has_formula && (length vs == 0)) i v ++ verdicts_text has_formula (suc i) vs

abbrev pub trace_text : List Name → RunTree ℕ → Bool → List Bool → List ℕ
trace_text names run has_formula verdicts =
    positions_text names run 0 run.positions ++ loop_text run.start run.length ++ verdicts_text has_formula 0 verdicts

-- each number of the terms that are assigned at a position is held
abbrev pub position_is_held : List Name → PositionTree ℕ → Bool
position_is_held names p = list_all (term_is_held names) p.updates

-- the names hold each signal of the run and each number of its terms
pub record RunIsHeld (names : List Name) (run : RunTree ℕ) : Type 0 where
  pub inputs : IsTrue (list_all (is_held names) run.inputs)
  pub cells : IsTrue (list_all (is_held names) run.cells)
  pub outputs : IsTrue (list_all (is_held names) run.outputs)
  pub positions : IsTrue (list_all (position_is_held names) run.positions)
