use Rattle.std.proofs.Common.{◌≤◌, length, sym, subst}
use Rattle.clause_learning.specs.ClauseDatabases.{numbers_of, AreFirst, AreKept}
use Rattle.clause_learning.proofs.LogHints.{first_kept}
use Rattle.clause_learning.proofs.clause_database.ClauseDatabase.kept.Goals as goal

pub loop-place-init : goal.loop-place-init
loop-place-init c =
    let clauses = c.args.trail.now.clauses in
    let numbers = numbers_of c.args.self.now in
    record {
      kept = subst (λ n. AreKept c.args.formula.now clauses numbers n c.new.result.items c.new-2.result) (sym c.len-count.ensures)
          (first_kept c.args.formula.now clauses numbers c.new.result.items c.new-2.result c.new.ensures.items
          (subst (λ n. AreFirst n c.new-2.result) c.len-count.ensures c.new-2.ensures));
      within = subst (λ n. n ≤ length clauses) (sym c.len-count.ensures) c.requires.formula;
    }
