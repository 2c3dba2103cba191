use Rattle.std.proofs.Common.{◌≡◌, ◌∙◌, ◌*◌, List, Option, ℕ, refl, sym, ap, length, subst}
use Rattle.clause_core.specs.Clauses.{assignment_of}
use Rattle.machines.specs.MachineTree.{ControllerTree}
use Rattle.machines.specs.MachineView.{controller_tree}
use Rattle.annotation_check.specs.Annotations.{number_of_pair}
use Rattle.bounded_encoding.specs.Question.{IsSolution}
use Rattle.bounded_encoding.specs.QuestionView.{question_of}
use Rattle.bounded_encoding.specs.Variables.{valuations_of}
use Rattle.bounded_encoding.specs.Decoding.{controller_read}
use Rattle.bounded_encoding.specs.Encoding.{controller_frame}
use Rattle.bounded_encoding.specs.Reading.{numbers_of}
use Rattle.bounded_encoding.proofs.SolutionsAreAssignments.Decoded.{is_solution}
use Rattle.bounded_encoding.proofs.SolutionsAreAssignments.Demands.{are_met}
use Rattle.bounded_encoding.proofs.Posed.{is_posed}
use Rattle.bounded_encoding.proofs.SolutionsAreAssignments.Readings.{entries_agree, numbers_at_end, numbers_counted}
use Rattle.bounded_encoding.proofs.finding.solution_read.Goals as goal

pub returns : goal.returns
returns c budget =
    let q = question_of c.args.automaton.now c.args.space.now c.args.states c.args.bound in
    let a = assignment_of c.args.truths.now in
    let posed = is_posed c.args.automaton.now c.args.space.now c.args.states c.args.bound c.requires.has_state in
    let table : controller_tree c.in_ok-controller.controller ≡ controller_read q a =
    c.in_ok-controller.ensures
    ∙ (λ i. record { states = q.states; valuations = valuations_of q; entries = entries_agree q a (q.states * valuations_of q) i }) in
    let numbers : c.in_ok-annotation.annotation.numbers ≡ numbers_of (controller_frame q) a
    = c.in_ok-annotation.ensures.numbers ∙ numbers_at_end (controller_frame q) a _ c.requires.satisfying.one_each in
    let read = is_solution q posed a (are_met q a c.requires.satisfying.all_met) in
    record {
      solution = subst (λ (t : ControllerTree). IsSolution q t (number_of_pair q.automaton_states c.in_ok-annotation.annotation.numbers))
          (sym table)
          (subst (λ (ns : List (Option ℕ)). IsSolution q (controller_read q a) (number_of_pair q.automaton_states ns)) (sym numbers) read);
      bound = c.in_ok-annotation.ensures.bound;
      one_each = ap length numbers ∙ numbers_counted (controller_frame q) a;
    }
