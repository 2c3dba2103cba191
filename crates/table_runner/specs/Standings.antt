-- Where a run stands.
use Rattle.std.specs.Prelude.{◌≡◌, ℕ, ◌++◌, length, map, take, drop, Some}
use Rattle.tsl_terms.specs.Value.{Meanings}
use Rattle.program_tree.specs.ProgramTree.{ProgramTree}
use Rattle.tsl_meaning.specs.Interpretation.{InputRows}
use Rattle.tsl_meaning.specs.Run.{Configuration, configuration_at, row_at}
use Rattle.table_runner.specs.declared.standing.Standing.{Standing}

module _ {V S : Type 0} (seen : V → S) where
  -- the configuration that is shown, of a program with so many inputs
  abbrev pub shown : ℕ → Standing V → Configuration S
  shown inputs standing = record {
    place = standing.place;
    state = standing.state;
    cells = drop inputs (map seen standing.leaves.values);
  }

  -- It is the configuration after so many steps, and the values are those of the inputs in its row and then of the cells.
  pub record StandsAt (meanings : Meanings S) (program : ProgramTree) (rows : InputRows S) (t : ℕ) (standing : Standing V) : Type 0 where
    pub is_now : configuration_at meanings program rows t ≡ Some (shown (length program.inputs) standing)
    pub signals : standing.leaves.signals ≡ program.inputs ++ program.cells
    pub row : row_at rows standing.place ≡ Some (take (length program.inputs) (map seen standing.leaves.values))
