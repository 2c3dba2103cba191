use Rattle.std.proofs.Common.{◌≡◌, ℕ, false, length, ap, sym, subst, ◌∙◌, arith}
use Rattle.sat_trail.specs.States.{TrailState}
use Rattle.clause_learning.specs.ConflictAnalysis.{AreNoneSeen}
use Rattle.clause_learning.specs.ClauseDatabases.{numbers_of}
use Rattle.clause_learning.specs.Decisions.{AreSet, AreVariableTruths, HasDecided, Decides}
use Rattle.sat_core.proofs.Searching.{search_decided, search_satisfied}
use Rattle.sat_core.proofs.search.Search.decide.Goals as goal

pub returns-then-branch-clause-searching : goal.returns-then-branch-clause-searching
returns-then-branch-clause-searching c =
    let s = c.args.self.now in
    let i = c.requires.searching in
    let w = c.decide.new.trail in
    let decided : HasDecided s.trail s.decisions w c.decide.new.self =
    subst (Decides s.trail s.decisions w c.decide.new.self) c.if-branch.true c.in_ok-decide.ensures in
    let variables : w.variables ≡ s.trail.variables = ap (λ (t : TrailState). t.variables) decided.trail_is in
    let clauses : length w.clauses ≡ length s.trail.clauses = ap (λ (t : TrailState). length t.clauses) decided.trail_is in
    record {
      no_tautology = i.no_tautology;
      logged = record {
        search = search_decided s.reduces s.cnf.now.variables s.cnf.now.clauses s.trail w s.proof_log.steps.items
            (numbers_of s.proof_log.database) decided.literal i.logged.search c.requires.quiet decided.trail_is decided.sound;
        next = i.logged.next;
      };
      order = decided.decisions;
      none_seen = subst (λ (n : ℕ). AreNoneSeen n s.analysis.seen) (sym variables) i.none_seen;
      table = record {
        one_each = i.table.one_each ∙ sym variables;
        within = omega (arith, i.table.within, clauses);
      };
      within = i.within;
      counted = i.counted;
      few = i.few;
      room = i.room;
      only = i.only;
      wanted = i.wanted;
    }

pub returns-clause-satisfying : goal.returns-clause-satisfying
returns-clause-satisfying c =
    let s = c.args.self.now in
    let search = c.requires.searching.logged.search in
    let truths = c.in_ok-assignment.assignment.truths in
    let w = c.decide.new.trail in
    let all : Decides s.trail s.decisions w c.decide.new.self false =
    subst (Decides s.trail s.decisions w c.decide.new.self) c.if-branch.false c.in_ok-decide.ensures in
    search_satisfied s.reduces s.cnf.now.variables s.cnf.now.clauses s.trail s.proof_log.steps.items (numbers_of s.proof_log.database)
    truths search s.cnf.now.over c.requires.quiet (subst (AreSet s.trail.entries) search.same_variables all.0)
    (subst (λ (t : TrailState). AreVariableTruths t.entries s.cnf.now.variables truths) all.1 c.in_ok-assignment.ensures)
