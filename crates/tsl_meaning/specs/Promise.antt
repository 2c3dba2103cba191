-- What a written program promises.
use Rattle.std.specs.Prelude.{◌≡◌, ℕ, ◌*◌, ◌^◌, List, ◌++◌, length}
use Rattle.std.specs.List.{AllByRecursion}
use Rattle.loop_shape.specs.LoopShape.{LoopShape}
use Rattle.tsl_terms.specs.Name.{Name}
use Rattle.tsl_terms.specs.FormulaTree.{FormulaTree}
use Rattle.tsl_terms.specs.SpecTree.{SpecTree, whole_formula}
use Rattle.tsl_terms.specs.Signals.{inputs_of, cells_of, outputs_of}
use Rattle.tsl_terms.specs.WindowTree.{window_formula_of}
use Rattle.tsl_terms.specs.Equality.{equality_in}
use Rattle.tsl_terms.specs.Congruence.{IsCongruent}
use Rattle.program_tree.specs.ProgramTree.{ProgramTree}
use Rattle.tsl_meaning.specs.OverNames.{IsProgramOver}
use Rattle.tsl_meaning.specs.Interpretation.{Interpretation, InputRows, IsInterpretation, IsInputLoop, meanings_in}
use Rattle.tsl_meaning.specs.Run.{Closed}
use Rattle.tsl_meaning.specs.Lasso.{Meets, closed_run}

-- how many configurations a program has: rows times states times values of each cell
abbrev pub configurations : ProgramTree → Interpretation → InputRows ℕ → ℕ
configurations program interpretation rows =
    (length (rows.stem ++ rows.cycle) * length program.states) * interpretation.domain ^ length program.cells

-- every closed run, for every closing pair, under every finite interpretation and every input loop, meets the formula
abbrev pub EveryRunMeets : List Name → ProgramTree → FormulaTree → Type 0
EveryRunMeets names program formula =
    (interpretation : Interpretation) (rows : InputRows ℕ) (shape : LoopShape) →
    IsInterpretation names program.cells interpretation →
    IsInputLoop interpretation.domain program.inputs rows →
    Closed (meanings_in names program interpretation) program rows shape →
    Meets (closed_run (meanings_in names program interpretation) program rows shape) formula 0

-- What a program promises that realizes a specification. It is a program over the specification's names, so that
-- each of its steps is there under every interpretation. It has exactly the inputs, cells and outputs of the
-- specification, so that every signal of its formula is one of the program's. Every run of it meets the whole
-- formula. Each of its windows is congruent for its cells and the names' equality, and every run of it meets the window's formula.
pub record Realizes (spec : SpecTree) (program : ProgramTree) : Type 0 where
  pub over_names : IsProgramOver spec.names program
  pub inputs : program.inputs ≡ inputs_of spec
  pub cells : program.cells ≡ cells_of spec
  pub outputs : program.outputs ≡ outputs_of spec
  pub runs : EveryRunMeets spec.names program (whole_formula spec)
  pub congruent : AllByRecursion (IsCongruent program.cells (equality_in spec.names)) program.windows
  pub windows : AllByRecursion (λ w. EveryRunMeets spec.names program (window_formula_of w)) program.windows
