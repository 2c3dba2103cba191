use Rattle.std.proofs.Common.{◌≡◌, ◌≤◌, false, List, length, All, sym, subst}
use Rattle.std.proofs.lemmas.List.Elements.{All-from_recursion}
use Rattle.clause_core.specs.Literals.{Lit}
use Rattle.clause_core.specs.Clauses.{has_pair}
use Rattle.refutation_check.specs.declared.limits.TheConstants.{MOST_CLAUSES}
use Rattle.refutation_check.proofs.Refuting.{accepted_refutes}
use Rattle.sat_core.specs.Answers.{AreRefuting}
use Rattle.bounded_encoding.specs.QuestionView.{question_of}
use Rattle.bounded_encoding.specs.Variables.{variable_count}
use Rattle.bounded_encoding.specs.Encoding.{demands, encoding}
use Rattle.bounded_encoding.proofs.Unpaired.{none_paired}
use Rattle.bounded_encoding.proofs.Posed.{is_posed, none_from_unsatisfiable}
use Rattle.bounded_encoding.proofs.finding.find_controller.Goals as goal

pub solve-requires-clause-no_tautology : goal.solve-requires-clause-no_tautology
solve-requires-clause-no_tautology c =
    let q = question_of c.args.automaton.now c.args.space.now c.args.states c.args.bound in
    subst (λ (cs : List (List Lit)). All (λ clause. has_pair clause ≡ false) cs) (sym c.in_ok-cnf.ensures.clauses)
    (All-from_recursion (λ (clause : List Lit). has_pair clause ≡ false) (encoding q) (none_paired (demands q)))

pub returns-in_ok-solution_read-in-Sat-clause-found : goal.returns-in_ok-solution_read-in-Sat-clause-found
returns-in_ok-solution_read-in-Sat-clause-found c = record {
  few = subst (λ (cs : List (List Lit)). length cs ≤ MOST_CLAUSES) c.in_ok-cnf.ensures.clauses c.in_ok-cnf.ensures.few;
  right = c.in_ok-solution_read-in-Sat.ensures c.args.budget;
}

pub returns-in-Unsat-clause-found : goal.returns-in-Unsat-clause-found
returns-in-Unsat-clause-found c =
    let q = question_of c.args.automaton.now c.args.space.now c.args.states c.args.bound in
    let posed = is_posed c.args.automaton.now c.args.space.now c.args.states c.args.bound c.requires.has_state in
    let answer : AreRefuting c.in_ok-cnf.cnf.variables c.in_ok-cnf.cnf.clauses c.in-Unsat.log.steps =
    rw c.in-Unsat.is at c.in_ok-assignment.ensures in
    let refuting : AreRefuting (variable_count q) (encoding q) c.in-Unsat.log.steps =
    rw (c.in_ok-cnf.ensures.variables, c.in_ok-cnf.ensures.clauses) at answer in
    record {
      few = subst (λ (cs : List (List Lit)). length cs ≤ MOST_CLAUSES) c.in_ok-cnf.ensures.clauses c.in_ok-cnf.ensures.few;
      right = record {
        variables = c.in_ok-cnf.ensures.variables;
        clauses = c.in_ok-cnf.ensures.clauses;
        refuting = refuting;
        none = none_from_unsatisfiable q posed (accepted_refutes (variable_count q) (encoding q) c.in-Unsat.log.steps refuting.accepted);
      };
    }
