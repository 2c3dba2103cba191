use Rattle.std.proofs.Common.{◌≡◌, ◌++◌, ℕ, List, [], length, ap, sym, subst, ◌∙◌, arith}
use Rattle.std.proofs.lemmas.List.{append-nil}
use Rattle.clause_core.specs.Literals.{Lit}
use Rattle.sat_trail.specs.States.{TrailState, started}
use Rattle.clause_learning.specs.ClauseDatabases.{AreFirst}
use Rattle.clause_learning.specs.ConflictAnalysis.{AreNoneSeen}
use Rattle.clause_learning.specs.Decisions.{AreDecisions}
use Rattle.sat_core.proofs.Searching.{search_begins}
use Rattle.sat_core.proofs.search.Search.new.Goals as goal

pub returns-clause-searching : goal.returns-clause-searching
returns-clause-searching c =
    let cnf = c.args.cnf.now in
    let proof_log = c.new-proof_log.result in
    let units = c.in_ok-units.ensures in
    let start : c.in_ok-trail.trail ≡ started cnf.variables cnf.clauses = c.in_ok-trail.ensures.ok
    ∙ ap (started cnf.variables) (ap (λ (cs : List (List Lit)). cnf.clauses ++ cs) c.new.ensures.items ∙ append-nil cnf.clauses) in
    let search = search_begins c.args.reduces cnf.variables cnf.clauses c.in_ok-trail.trail proof_log.steps.items proof_log.database
    start c.in_ok-trail.ensures.sound c.new-proof_log.ensures.steps
    (subst (λ (n : ℕ). AreFirst n proof_log.database) c.len.ensures c.new-proof_log.ensures.database) in
    record {
      no_tautology = c.requires.no_tautology;
      logged = record {
        search = search;
        next = omega (arith, c.new-proof_log.ensures.next, c.len.ensures, ap length c.new-proof_log.ensures.steps);
      };
      order = subst (λ (s : TrailState). AreDecisions s.variables s.entries c.in_ok-decisions.decisions) (sym start)
          (c.in_ok-decisions.ensures []);
      none_seen = subst (λ (s : TrailState). AreNoneSeen s.variables c.in_ok-analysis.analysis.seen) (sym start) c.in_ok-analysis.ensures;
      table = units.units c.in_ok-trail.trail search.same_variables;
      within = omega (arith, ap length c.new-proof_log.ensures.steps);
      counted = omega (arith, units.added);
      few = omega (arith, units.added);
      room = omega (arith, units.most, c.most_units.ensures.room);
      only = λ keeps. units.most ∙ c.most_units.ensures.none keeps;
      wanted = c.new-reductions.ensures;
    }
