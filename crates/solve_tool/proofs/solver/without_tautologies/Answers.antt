use Rattle.std.proofs.Common.{◌≡◌, All, sym, subst, rules}
use Rattle.std.specs.Prelude.{None, position}
use Rattle.std.proofs.lemmas.List.Elements.{All-filter}
use Rattle.clause_core.specs.Clauses.{IsOver, has_pair}
use Rattle.solve_tool.proofs.Proper.{all_proper}
use Rattle.solve_tool.proofs.solver.without_tautologies.Goals as goal

pub returns-then-is_none-clause-clauses : goal.returns-then-is_none-clause-clauses
returns-then-is_none-clause-clauses c =
    let none : position has_pair c.args.cnf.clauses ≡ None = search rules in
    sym (all_proper c.args.cnf.clauses none)

pub invariant_of-result : goal.invariant_of-result
invariant_of-result c = record {
  few = c.args.cnf.few;
  over = subst (All (IsOver c.args.cnf.variables)) (sym c.in_ok-clauses.ensures) (All-filter _ (IsOver c.args.cnf.variables) c.args.cnf.clauses c.args.cnf.over);
}
