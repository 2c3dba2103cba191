use Rattle.std.proofs.Common.{◌≡◌, ◌∙◌, ◌*◌, List, Option, ℕ, length, refl, sym, ap, subst}
use Rattle.clause_core.specs.Clauses.{assignment_of}
use Rattle.machines.specs.MachineTree.{EnvironmentTree}
use Rattle.machines.specs.MachineView.{environment_tree}
use Rattle.annotation_check.specs.Annotations.{number_of_pair}
use Rattle.bounded_encoding.specs.QuestionView.{question_of}
use Rattle.bounded_encoding.specs.Reading.{numbers_of}
use Rattle.bounded_encoding.proofs.Posed.{is_posed}
use Rattle.bounded_encoding.proofs.SolutionsAreAssignments.Readings.{numbers_at_end, numbers_counted}
use Rattle.counterstrategy.specs.EnvironmentQuestion.{IsEnvironmentSolution}
use Rattle.counterstrategy.specs.DualVariables.{tests_in_all, vectors_in_all, before_moves}
use Rattle.counterstrategy.specs.DualEncoding.{environment_frame}
use Rattle.counterstrategy.specs.DualDecoding.{environment_read}
use Rattle.counterstrategy.specs.internal.DualReading.{truths_from, successors_from}
use Rattle.counterstrategy.proofs.DualReadings.{successors_agree}
use Rattle.counterstrategy.proofs.EnvironmentDecoded.{is_environment_solution}
use Rattle.counterstrategy.proofs.environment_finding.answer_read.Goals as goal

pub returns : goal.returns
returns c budget =
    let q = question_of c.args.automaton.now c.args.space.now c.args.states c.args.bound in
    let a = assignment_of c.args.truths.now in
    let posed = is_posed c.args.automaton.now c.args.space.now c.args.states c.args.bound c.requires.has_state in
    let table : environment_tree c.in_ok-environment.environment ≡ environment_read q a
    = c.in_ok-environment.ensures
    ∙ (λ i. record {
      states = q.states;
      vectors = c.requires.vectors i;
      truths = truths_from a (tests_in_all q) q.states;
      next = successors_from a (before_moves q) q.states (q.states * c.requires.vectors i);
    })
    ∙ (λ i. record {
      states = q.states;
      vectors = vectors_in_all q;
      truths = truths_from a (tests_in_all q) q.states;
      next = successors_agree q a i;
    }) in
    let numbers : c.in_ok-annotation.annotation.numbers ≡ numbers_of (environment_frame q) a
    = c.in_ok-annotation.ensures.numbers ∙ numbers_at_end (environment_frame q) a _ c.requires.satisfying.one_each in
    let read = is_environment_solution q posed a c.requires.satisfying.all_met in
    record {
      solution = subst
          (λ (t : EnvironmentTree). IsEnvironmentSolution q t (number_of_pair q.automaton_states c.in_ok-annotation.annotation.numbers))
          (sym table)
          (subst (λ (ns : List (Option ℕ)). IsEnvironmentSolution q (environment_read q a) (number_of_pair q.automaton_states ns))
          (sym numbers) read);
      bound = c.in_ok-annotation.ensures.bound;
      one_each = ap length numbers ∙ numbers_counted (environment_frame q) a;
    }
