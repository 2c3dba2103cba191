-- The letter loop of a closed run.
use Rattle.std.specs.Prelude.{◌≡◌, ℕ, ◌<◌, ◌^◌, ◌++◌, Some}
use Rattle.std.specs.List.{AllByRecursion}
use Rattle.loop_shape.specs.LoopShape.{LoopShape, IsPosition}
use Rattle.tsl_terms.specs.Value.{Meanings}
use Rattle.program_tree.specs.ProgramTree.{ProgramTree}
use Rattle.tsl_meaning.specs.Interpretation.{InputRows}
use Rattle.tsl_meaning.specs.Run.{Configuration, configuration_at}
use Rattle.tsl_meaning.specs.Lasso.{closed_run}
use Rattle.ltl_formula.specs.LetterLoop.{LetterLoop}
use Rattle.letter_space.specs.SpaceTree.{SpaceTree}
use Rattle.underapprox.specs.LetterLasso.{AreLettersOf}
use Rattle.machines.specs.MachineTree.{ControllerTree}
use Rattle.machines.specs.Moves.{controller_moves, IsLoopOf}

-- The letter loop of a closed run of a program: its letters say what holds in the run, and it is a loop of the program's controller,
-- which is in the state of the run's configuration at each position.
pub record IsLetterLoopOf {V : Type 0} (space : SpaceTree) (c : ControllerTree) (meanings : Meanings V) (program : ProgramTree)
    (rows : InputRows V) (shape : LoopShape) (loop : LetterLoop) : Type 0 where
  pub letters : AreLettersOf space (closed_run meanings program rows shape) loop
  pub fit : AllByRecursion (λ letter. letter < 2 ^ 64) (loop.stem ++ loop.cycle)
  pub state : ℕ → ℕ
  pub is_loop : IsLoopOf (controller_moves space c) loop state
  pub in_state : (i : ℕ) → IsPosition shape i → (now : Configuration V) → configuration_at meanings program rows i ≡ Some now →
      state i ≡ now.state
