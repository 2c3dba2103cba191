-- When a program can run over the rows of an input loop.
use Rattle.std.specs.Prelude.{◌≡◌, ℕ, ◌^◌, ◌<◌, List, ◌++◌, length, map, Some, slice_get}
use Rattle.tsl_terms.specs.Value.{Meanings}
use Rattle.program_tree.specs.ProgramTree.{ProgramTree}
use Rattle.tsl_meaning.specs.declared.run.InputLoop.{InputLoop}
use Rattle.tsl_meaning.specs.Interpretation.{InputRows}
use Rattle.tsl_meaning.specs.Run.{HasStep}

-- what is seen of the rows of an input loop
abbrev pub rows_seen : {V S : Type 0} → (V → S) → InputLoop V → InputRows S
rows_seen seen inputs = record { stem = map (map seen) inputs.stem; cycle = map (map seen) inputs.cycle }

-- Each row has one value for each input, there are fewer than 2^32 rows, and each step is there.
pub record CanRun {S : Type 0} (meanings : Meanings S) (program : ProgramTree) (rows : InputRows S) : Type 0 where
  pub rows_fit : (i : ℕ) (row : List S) → slice_get (rows.stem ++ rows.cycle) i ≡ Some row → length row ≡ length program.inputs
  pub few_rows : length (rows.stem ++ rows.cycle) < 2 ^ 32
  pub goes_on : (t : ℕ) → HasStep meanings program rows t
