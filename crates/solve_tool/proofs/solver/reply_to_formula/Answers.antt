use Rattle.std.proofs.Common.{◌≡◌, ℕ, ◌≤◌, All, false, length, ap, subst, sym, arith}
use Rattle.std.specs.Prelude.{IfOk}
use Rattle.clause_core.specs.Clauses.{has_pair}
use Rattle.solve_tool.specs.Outcome.{IsRightReply}
use Rattle.solve_tool.proofs.Proper.{are_proper, few_proper}
use Rattle.solve_tool.proofs.Solutions.{satisfiable_solves, unsatisfiable_solves}
use Rattle.solve_tool.proofs.solver.reply_to_formula.Goals as goal

pub solve-requires-clause-no_tautology : goal.solve-requires-clause-no_tautology
solve-requires-clause-no_tautology c =
    subst (All (λ clause. has_pair clause ≡ false)) (sym c.in_ok-cnf.ensures.clauses) (are_proper c.args.cnf.clauses)

pub solve-requires-clause-few : goal.solve-requires-clause-few
solve-requires-clause-few c =
    let most : length c.args.cnf.clauses ≤ 2000000 = c.requires.few_clauses in
    omega (arith, ap length c.in_ok-cnf.ensures.clauses, few_proper c.args.cnf.clauses, most, c.requires.few)

pub returns-in-Sat : goal.returns-in-Sat
returns-in-Sat c =
    let cnf = c.in_ok-cnf.cnf in
    subst (λ (v : ℕ). IfOk c.satisfiable.result (λ reply. IsRightReply c.args.request v c.args.cnf.clauses reply.status reply.text))
    c.in_ok-cnf.ensures.variables
    (satisfiable_solves c.args.request cnf.variables c.args.cnf.clauses cnf.clauses c.in_ok-cnf.ensures.clauses
    c.satisfiable.result c.in-Sat.assignment.truths c.as_slice.result.now c.as_slice.ensures
    (rw c.in-Sat.is at c.in_ok-assignment.ensures) c.satisfiable.ensures)

pub unsatisfiable-requires-clause-few_clauses : goal.unsatisfiable-requires-clause-few_clauses
unsatisfiable-requires-clause-few_clauses c =
    let most : length c.args.cnf.clauses ≤ 2000000 = c.requires.few_clauses in
    let few : length c.in_ok-cnf.cnf.clauses ≤ 2000000 =
    omega (arith, ap length c.in_ok-cnf.ensures.clauses, few_proper c.args.cnf.clauses, most) in
    few

pub returns-in-Unsat : goal.returns-in-Unsat
returns-in-Unsat c =
    let cnf = c.in_ok-cnf.cnf in
    subst (λ (v : ℕ). IfOk c.unsatisfiable.result (λ reply. IsRightReply c.args.request v c.args.cnf.clauses reply.status reply.text))
    c.in_ok-cnf.ensures.variables
    (unsatisfiable_solves c.args.request cnf.variables c.args.cnf.clauses cnf.clauses c.in_ok-cnf.ensures.clauses
    c.unsatisfiable.result c.in-Unsat.log.steps (rw c.in-Unsat.is at c.in_ok-assignment.ensures) c.unsatisfiable.ensures)
