-- A program whose controller has an annotation for the negation of a formula meets the formula.
use Rattle.std.proofs.Common.{◌∙◌, ℕ, ◌≤◌, not, List, length, Option, sym, ap, arith}
use Rattle.base_library.proofs.Booleans.{not_not}
use Rattle.loop_shape.specs.LoopShape.{LoopShape, IsPosition}
use Rattle.tsl_terms.specs.declared.operator.UnaryOperator.TheVariants.{Negation}
use Rattle.tsl_terms.specs.Name.{Name}
use Rattle.tsl_terms.specs.FormulaTree.{FormulaTree, unary}
use Rattle.tsl_terms.specs.Value.{Meanings}
use Rattle.program_tree.specs.ProgramTree.{ProgramTree}
use Rattle.tsl_meaning.specs.Interpretation.{InputRows, meanings_in}
use Rattle.tsl_meaning.specs.Run.{Closed}
use Rattle.tsl_meaning.specs.Lasso.{meets, closed_run, Meets}
use Rattle.tsl_meaning.specs.Promise.{EveryRunMeets}
use Rattle.letter_space.specs.SpaceTree.{SpaceTree, IsSpace}
use Rattle.letter_space.specs.Bits.{HasBits}
use Rattle.underapprox.specs.LetterForm.{letter_form}
use Rattle.underapprox.proofs.Agreement.{form_says}
use Rattle.cobuchi_automata.specs.Automata.{StateTree, EdgeTree, IsAutomaton}
use Rattle.machines.specs.MachineTree.{ControllerTree}
use Rattle.machines.specs.Moves.{controller_moves}
use Rattle.annotation_check.specs.Annotations.{edges_from, IsAnnotation}
use Rattle.annotation_check.proofs.PathBounds.{fails}
use Rattle.control_flow_model.specs.ProgramBits.{ProgramHasBits}
use Rattle.control_flow_model.specs.ControllerOf.{IsControllerOf}
use Rattle.control_flow_model.proofs.RunLoops.{letter_loop_of_run}

pub annotated_program_meets : (space : SpaceTree) (program : ProgramTree) (c : ControllerTree) (formula : FormulaTree)
    (states : List StateTree) (edges : List EdgeTree) (bound : ℕ) (number : ℕ → ℕ → Option ℕ) →
    IsSpace space → ProgramHasBits space program → IsControllerOf space program c → HasBits space formula →
    IsAutomaton (letter_form space (unary Negation formula)) states edges →
    IsAnnotation (edges_from edges) (controller_moves space c) bound number →
    (names : List Name) → EveryRunMeets names program formula
annotated_program_meets space program c formula states edges bound number is_space bits is_controller has automaton annotation names =
    λ interpretation rows shape is is_rows closed. here (meanings_in names program interpretation) rows shape closed
  where
    here : (meanings : Meanings ℕ) (rows : InputRows ℕ) (shape : LoopShape) → Closed meanings program rows shape →
        Meets (closed_run meanings program rows shape) formula 0
    here meanings rows shape closed =
        let found = letter_loop_of_run space c is_space meanings program rows bits is_controller shape closed in
        let some : 1 ≤ length found.0.cycle =
        omega (arith, closed.goes_on, ap (λ (s : LoopShape). s.length) found.1.letters.same_shape) in
        let first : IsPosition shape 0 = record { goes_on = closed.goes_on; within = omega (arith, closed.goes_on) } in
        let fails_there = fails edges (controller_moves space c) bound number annotation found.0 found.1.state found.1.is_loop
        (letter_form space (unary Negation formula)) states automaton found.1.fit some in
        let says = form_says space (unary Negation formula)
        (closed_run meanings program rows shape) found.0 found.1.letters has 0 first in
        sym (not_not (meets (closed_run meanings program rows shape) formula 0)) ∙ ap not (sym says ∙ fails_there)
