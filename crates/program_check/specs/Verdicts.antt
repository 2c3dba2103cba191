-- What is said of a program under a specification, each verdict being the first that applies, and why nothing is said.
-- Source: Finkbeiner, Klein, Piskac, Santolucito: Temporal Stream Logic: Synthesis Beyond the Bools (CAV 2019), the
-- approximation in linear temporal logic and its refinement; Schewe, Finkbeiner: Bounded Synthesis (ATVA 2007). The order of
-- verdicts is this project's own rule.
use Rattle.std.specs.Prelude.{◌≡◌, ℕ, ◌≤◌, Bool, not, ◌&&◌, is_some, List, length, take, Option, Some, None, slice_get, position, ⊤}
use Rattle.std.specs.List.{list_all, AllByRecursion}
use Rattle.tsl_terms.specs.declared.operator.UnaryOperator.TheVariants.{Negation}
use Rattle.tsl_terms.specs.TermTree.{TermTree, ProbeTree}
use Rattle.tsl_terms.specs.FormulaTree.{FormulaTree, unary}
use Rattle.tsl_terms.specs.SpecTree.{SpecTree, whole_formula}
use Rattle.tsl_terms.specs.Signals.{inputs_of, cells_of, outputs_of}
use Rattle.tsl_terms.specs.WindowTree.{WindowTree, window_probes, under_windows}
use Rattle.tsl_terms.specs.Congruence.{IsCongruent}
use Rattle.tsl_terms.specs.Equality.{equality_in}
use Rattle.program_tree.specs.NodeTree.{branch, assign}
use Rattle.program_tree.specs.ProgramTree.{ProgramTree}
use Rattle.ltl_formula.specs.LtlTree.{LtlTree}
use Rattle.letter_space.specs.declared.limits.TheConstants.{MOST_PREDICATES, MOST_BITS}
use Rattle.letter_space.specs.declared.space_error.SpaceError.TheVariants as spaces
use Rattle.letter_space.specs.SpaceTree.{SpaceTree, bit_count}
use Rattle.letter_space.specs.Bits.{bit_of_probe, bit_of_update}
use Rattle.letter_space.specs.SpecSpace.{spec_space, HasSpaceCause}
use Rattle.underapprox.specs.LetterForm.{letter_form}
use Rattle.cobuchi_automata.specs.Automata.{StateTree, EdgeTree, IsAutomaton}
use Rattle.cobuchi_automata.specs.Refusals.{most_automaton_states, most_automaton_edges, HasTooManyChoices, HasTooManyStates}
use Rattle.cobuchi_automata.specs.Refusals.{HasTooManyEdges}
use Rattle.machines.specs.declared.side.Side.{Side}
use Rattle.machines.specs.declared.side.Side.TheVariants.{Controller, Environment}
use Rattle.machines.specs.MachineTree.{ControllerTree}
use Rattle.machines.specs.Moves.{controller_moves}
use Rattle.annotation_check.specs.Annotations.{edges_from, IsAnnotation}
use Rattle.control_flow_model.specs.ProgramBits.{node_has_bits}
use Rattle.control_flow_model.specs.ControllerOf.{IsControllerOf}
use Rattle.program_check.specs.declared.verdict.Verdict.{Verdict}
use Rattle.program_check.specs.declared.verdict.Verdict.TheVariants.{Signals, Test, Choice, Foreign, Unsound, NoAnnotation, Yes}
use Rattle.program_check.specs.declared.verdict.Limit.{Limit}
use Rattle.program_check.specs.declared.verdict.Limit.TheVariants.{Predicates, Bits, Choices, States, Edges, Vectors, Clauses, Branches}
use Rattle.program_check.specs.declared.verdict.CheckError.{CheckError}
use Rattle.program_check.specs.declared.verdict.CheckError.TheVariants.{Large, NoMemory}

-- the specification is within the limits of bits
pub record HasFewBits (spec : SpecTree) : Type 0 where
  pub few_predicates : length (spec_space spec).predicates ≤ MOST_PREDICATES
  pub few_bits : bit_count (spec_space spec) ≤ MOST_BITS

-- the program has exactly the inputs, cells and outputs of the specification
pub record HasSignals (spec : SpecTree) (program : ProgramTree) : Type 0 where
  pub inputs : program.inputs ≡ inputs_of spec
  pub cells : program.cells ≡ cells_of spec
  pub outputs : program.outputs ≡ outputs_of spec

-- the first node whose test is no predicate term of the specification, or one of whose terms is no choice of its signal
abbrev pub first_refused_node : SpecTree → ProgramTree → Option ℕ
first_refused_node spec program = position (λ n. not (node_has_bits (spec_space spec) n)) program.nodes

-- it is that of a test, or of terms
pub record RefusesTest (spec : SpecTree) (program : ProgramTree) (i : ℕ) : Type 0 where
  pub first : first_refused_node spec program ≡ Some i
  pub test : ProbeTree
  pub then_node : ℕ
  pub else_node : ℕ
  pub is_test : slice_get program.nodes i ≡ Some (branch test then_node else_node)

pub record RefusesTerms (spec : SpecTree) (program : ProgramTree) (i : ℕ) : Type 0 where
  pub first : first_refused_node spec program ≡ Some i
  pub terms : List TermTree
  pub go : ℕ
  pub are_terms : slice_get program.nodes i ≡ Some (assign terms go)

-- whether the probes of a window are predicate terms, and each listed update is a choice of its signal
abbrev pub window_has_bits : SpaceTree → WindowTree → Bool
window_has_bits space w =
    list_all (λ p. is_some (bit_of_probe space p)) (window_probes w)
    && list_all (λ u. is_some (bit_of_update space u.signal u.term)) w.updates

-- the first window with a predicate term or an update that the specification lacks
abbrev pub first_foreign_window : SpecTree → ProgramTree → Option ℕ
first_foreign_window spec program = position (λ w. not (window_has_bits (spec_space spec) w)) program.windows

-- each window is congruent, the cells being those of the program and equality that of the specification's names
abbrev pub AreSound : SpecTree → ProgramTree → Type 0
AreSound spec program = AllByRecursion (IsCongruent program.cells (equality_in spec.names)) program.windows

-- the first window that is not congruent
pub record IsUnsoundAt (spec : SpecTree) (program : ProgramTree) (i : ℕ) : Type 0 where
  pub window : WindowTree
  pub there : slice_get program.windows i ≡ Some window
  pub unsound : IsCongruent program.cells (equality_in spec.names) window → ⊥
  pub before : AllByRecursion (IsCongruent program.cells (equality_in spec.names)) (take i program.windows)

-- the formula that an automaton is asked for: for controllers the negation of the whole formula under windows, for environments that
-- formula itself
abbrev pub formula_for : Side → SpecTree → List WindowTree → FormulaTree
formula_for Controller spec windows = unary Negation (under_windows windows (whole_formula spec))
formula_for Environment spec windows = under_windows windows (whole_formula spec)

-- its letter form
abbrev pub form_for : Side → SpecTree → List WindowTree → LtlTree
form_for side spec windows = letter_form (spec_space spec) (formula_for side spec windows)

-- the question that is asked of a program: its controller, and the edges of an automaton within the limits of the negation of the
-- whole formula under the program's windows
pub record IsQuestion (spec : SpecTree) (program : ProgramTree) (c : ControllerTree) (edges : List EdgeTree) : Type 0 where
  pub controller : IsControllerOf (spec_space spec) program c
  pub states : List StateTree
  pub automaton : IsAutomaton (form_for Controller spec program.windows) states edges
  pub few_states : length states ≤ most_automaton_states
  pub few_edges : length edges ≤ most_automaton_edges

-- an annotation within the bound of such a controller for such an automaton
abbrev pub IsProgramAnnotation : SpecTree → ControllerTree → List EdgeTree → ℕ → (ℕ → ℕ → Option ℕ) → Type 0
IsProgramAnnotation spec c edges bound number = IsAnnotation (edges_from edges) (controller_moves (spec_space spec) c) bound number

-- there is one
pub record HasAnnotation (spec : SpecTree) (program : ProgramTree) (bound : ℕ) : Type 0 where
  pub controller : ControllerTree
  pub edges : List EdgeTree
  pub question : IsQuestion spec program controller edges
  pub number : ℕ → ℕ → Option ℕ
  pub annotation : IsProgramAnnotation spec controller edges bound number

-- it can be asked, and there is none
pub record HasNoAnnotation (spec : SpecTree) (program : ProgramTree) (bound : ℕ) : Type 0 where
  pub controller : ControllerTree
  pub edges : List EdgeTree
  pub question : IsQuestion spec program controller edges
  pub none : HasAnnotation spec program bound → ⊥

-- what was asked before an annotation is
pub record IsOverBits (spec : SpecTree) (program : ProgramTree) : Type 0 where
  pub signals : HasSignals spec program
  pub nodes : first_refused_node spec program ≡ None
  pub foreign : first_foreign_window spec program ≡ None
  pub sound : AreSound spec program

-- what each verdict says, each after those above it
abbrev pub IsVerdict : SpecTree → ProgramTree → ℕ → Verdict → Type 0
IsVerdict spec program bound Signals = HasSignals spec program → ⊥
IsVerdict spec program bound (Test i) = HasSignals spec program × RefusesTest spec program i
IsVerdict spec program bound (Choice i) = HasSignals spec program × RefusesTerms spec program i
IsVerdict spec program bound (Foreign i) =
    HasSignals spec program × (first_refused_node spec program ≡ None) × (first_foreign_window spec program ≡ Some i)
IsVerdict spec program bound (Unsound i) =
    HasSignals spec program × (first_refused_node spec program ≡ None) × (first_foreign_window spec program ≡ None) ×
    IsUnsoundAt spec program i
IsVerdict spec program bound NoAnnotation = IsOverBits spec program × HasNoAnnotation spec program bound
IsVerdict spec program bound Yes = IsOverBits spec program × HasAnnotation spec program bound

-- a limit that is passed: those of bits before every verdict, those of the automaton only where an annotation is asked, and the others
-- never, since neither an encoding nor a window is asked for
abbrev pub IsPassed : SpecTree → ProgramTree → Limit → Type 0
IsPassed spec program Predicates = HasSpaceCause spec spaces.Predicates
IsPassed spec program Bits = HasSpaceCause spec spaces.Bits
IsPassed spec program Choices =
    HasFewBits spec × IsOverBits spec program × HasTooManyChoices (form_for Controller spec program.windows)
IsPassed spec program States = HasFewBits spec × IsOverBits spec program × HasTooManyStates (form_for Controller spec program.windows)
IsPassed spec program Edges = HasFewBits spec × IsOverBits spec program × HasTooManyEdges (form_for Controller spec program.windows)
IsPassed spec program Vectors = ⊥
IsPassed spec program Clauses = ⊥
IsPassed spec program Branches = ⊥

-- why nothing is said: a limit is passed, or memory ran out
abbrev pub HasCheckCause : SpecTree → ProgramTree → CheckError → Type 0
HasCheckCause spec program (Large limit) = IsPassed spec program limit
HasCheckCause spec program NoMemory = ⊤
