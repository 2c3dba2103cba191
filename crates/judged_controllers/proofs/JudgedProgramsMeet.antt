-- A program whose controller has an annotation for an automaton of a formula that means the same as the negation of another one meets
-- that one.
use Rattle.std.proofs.Common.{◌∙◌, ℕ, ◌≤◌, not, List, length, Option, sym, ap, arith}
use Rattle.base_library.proofs.Booleans.{not_not}
use Rattle.loop_shape.specs.LoopShape.{LoopShape, IsPosition}
use Rattle.tsl_terms.specs.declared.operator.UnaryOperator.TheVariants.{Negation}
use Rattle.tsl_terms.specs.Name.{Name}
use Rattle.tsl_terms.specs.FormulaTree.{FormulaTree, unary}
use Rattle.tsl_terms.specs.Value.{Meanings}
use Rattle.program_tree.specs.ProgramTree.{ProgramTree}
use Rattle.tsl_meaning.specs.Interpretation.{InputRows, meanings_in}
use Rattle.tsl_meaning.specs.Run.{Closed}
use Rattle.tsl_meaning.specs.Lasso.{meets, closed_run, Meets}
use Rattle.tsl_meaning.specs.Promise.{EveryRunMeets}
use Rattle.ltl_formula.specs.LtlTree.{LtlTree}
use Rattle.ltl_formula.specs.LetterLoop.{shape_of}
use Rattle.letter_space.specs.SpaceTree.{SpaceTree, IsSpace}
use Rattle.letter_space.specs.Bits.{HasBits}
use Rattle.underapprox.specs.LetterForm.{letter_form}
use Rattle.underapprox.proofs.Agreement.{form_says}
use Rattle.ltl_rewriting.specs.SameMeaning.{MeansSame}
use Rattle.cobuchi_automata.specs.Automata.{StateTree, EdgeTree, IsAutomaton}
use Rattle.machines.specs.MachineTree.{ControllerTree}
use Rattle.machines.specs.Moves.{controller_moves}
use Rattle.annotation_check.specs.Annotations.{edges_from, IsAnnotation}
use Rattle.annotation_check.proofs.PathBounds.{fails}
use Rattle.control_flow_model.specs.ProgramBits.{ProgramHasBits}
use Rattle.control_flow_model.specs.ControllerOf.{IsControllerOf}
use Rattle.control_flow_model.proofs.RunLoops.{letter_loop_of_run}

pub judged_program_meets : (space : SpaceTree) (program : ProgramTree) (c : ControllerTree) (formula : FormulaTree) (form : LtlTree)
    (states : List StateTree) (edges : List EdgeTree) (bound : ℕ) (number : ℕ → ℕ → Option ℕ) →
    IsSpace space → ProgramHasBits space program → IsControllerOf space program c → HasBits space formula →
    MeansSame form (letter_form space (unary Negation formula)) → IsAutomaton form states edges →
    IsAnnotation (edges_from edges) (controller_moves space c) bound number →
    (names : List Name) → EveryRunMeets names program formula
judged_program_meets space program c formula form states edges bound number is_space bits is_controller has same automaton annotation names =
    λ interpretation rows shape is is_rows closed. on_run (meanings_in names program interpretation) rows shape closed
  where
    on_run : (meanings : Meanings ℕ) (rows : InputRows ℕ) (shape : LoopShape) → Closed meanings program rows shape →
        Meets (closed_run meanings program rows shape) formula 0
    on_run meanings rows shape closed =
        let found = letter_loop_of_run space c is_space meanings program rows bits is_controller shape closed in
        let some : 1 ≤ length found.0.cycle =
        omega (arith, closed.goes_on, ap (λ (s : LoopShape). s.length) found.1.letters.same_shape) in
        let first : IsPosition shape 0 = record { goes_on = closed.goes_on; within = omega (arith, closed.goes_on) } in
        let there : IsPosition (shape_of found.0) 0 = record { goes_on = some; within = omega (arith, some) } in
        let fails_there = fails edges (controller_moves space c) bound number annotation found.0 found.1.state found.1.is_loop
        form states automaton found.1.fit some in
        let says = form_says space (unary Negation formula)
        (closed_run meanings program rows shape) found.0 found.1.letters has 0 first in
        sym (not_not (meets (closed_run meanings program rows shape) formula 0))
        ∙ ap not (sym says ∙ (sym (same found.0 0 there) ∙ fails_there))
