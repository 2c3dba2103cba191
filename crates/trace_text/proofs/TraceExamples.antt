-- The text of a run of two positions, with a window that holds and a formula that fails, which computes.
use Rattle.std.specs.Prelude.{◌≡◌, ℕ, true, false, List, [], ◌∷◌, ◌++◌, codes, refl}
use Rattle.std.specs.Fmt.{digits}
use Rattle.tsl_terms.specs.declared.names.NameKind.TheVariants.{Signal}
use Rattle.tsl_terms.specs.Name.{Name}
use Rattle.tsl_terms.specs.TermTree.{signal}
use Rattle.tsl_meaning.specs.RunTree.{PositionTree, RunTree}
use Rattle.trace_text.specs.TraceText.{trace_text}

signal_named : List ℕ → Name
signal_named text = record { text = text; kind = Signal; arity = 0 }

two_names : List Name
two_names = signal_named (codes "x") ∷ signal_named (codes "y") ∷ []

-- a cell takes the value of an input
at_cell_value : ℕ → PositionTree ℕ
at_cell_value v = record { place = 0; state = 0; row = 1 ∷ []; cells = v ∷ []; updates = signal 0 ∷ [] }

two_positions : RunTree ℕ
two_positions = record {
  inputs = 0 ∷ [];
  cells = 1 ∷ [];
  outputs = [];
  start = 1;
  length = 1;
  positions = at_cell_value 0 ∷ at_cell_value 1 ∷ [];
}

seam_and_verdicts : trace_text two_names two_positions true (true ∷ false ∷ []) ≡
    codes "at 0 place 0 state 0 x 1 y 0 do [y <- x]\n" ++ codes "at 1 place 0 state 0 x 1 y 1 do [y <- x]\n"
    ++ codes "loop 1 1\nwindow 0 holds\nformula fails\n"
unfolding digits two_positions at_cell_value two_names signal_named
seam_and_verdicts = refl

no_formula : trace_text two_names two_positions false (true ∷ false ∷ []) ≡
    codes "at 0 place 0 state 0 x 1 y 0 do [y <- x]\n" ++ codes "at 1 place 0 state 0 x 1 y 1 do [y <- x]\n"
    ++ codes "loop 1 1\nwindow 0 holds\nwindow 1 fails\n"
unfolding digits two_positions at_cell_value two_names signal_named
no_formula = refl
