use Rattle.std.proofs.Common.{◌≡◌, ◌++◌, ℕ, List, Option, length, ap, sym, subst, ◌∙◌, arith}
use Rattle.clause_core.specs.Literals.{Lit}
use Rattle.clause_core.specs.Propagation.{IsQuiet}
use Rattle.sat_trail.specs.Entries.{literals_of}
use Rattle.sat_trail.specs.States.{TrailState, EndsWith, undone}
use Rattle.clause_learning.specs.ClauseDatabases.{numbers_of}
use Rattle.clause_learning.specs.LearntClauses.{clauses_of, IsRefutingLog}
use Rattle.sat_core.proofs.Searching.{quiet_reaches, search_refuted, search_spent}
use Rattle.clause_learning.specs.ConflictAnalysis.{AreNoneSeen}
use Rattle.clause_learning.specs.Units.{AreUnits}
use Rattle.sat_core.proofs.SearchNotes.{can_learn}
use Rattle.sat_core.proofs.search.Search.end.Goals as goal

pub refute-requires-clause-ready : goal.refute-requires-clause-ready
refute-requires-clause-ready c =
    let r = can_learn c.requires.searching in
    let t = c.args.self.trail in
    let u = c.propagate.new.self in
    let added = c.in_ok-conflict.ensures.ok.added in
    let is : u ≡ record (undone t 0) { entries = (undone t 0).entries ++ added } = c.in_ok-conflict.ensures.ok.rest_stays
    ∙ ap (λ (s : TrailState). record s { entries = s.entries ++ added }) c.undo_to.ensures.value in
    record {
      usable = ap (λ (t : TrailState). t.broken) is ∙ r.usable;
      sound = c.in_ok-conflict.ensures.sound;
      none_seen = subst (λ (t : TrailState). AreNoneSeen t.variables c.args.self.analysis.seen) (sym is) r.none_seen;
      table = subst (λ (t : TrailState). AreUnits t c.args.self.units) (sym is)
          (record { one_each = r.table.one_each; within = r.table.within });
      next = r.next;
      numbers = r.numbers ∙ sym (ap (λ (t : TrailState). length t.clauses) is);
    }

pub returns-in-Some : goal.returns-in-Some
returns-in-Some c =
    let s = c.args.self in
    let i = c.requires.searching in
    let log = c.in_ok-log-in-Some.log in
    let same : c.propagate.new.self.clauses ≡ s.trail.clauses = ap (λ (t : TrailState). t.clauses) c.in_ok-conflict.ensures.ok.rest_stays
    ∙ ap (λ (t : TrailState). t.clauses) c.undo_to.ensures.value in
    search_refuted s.reduces s.cnf.now.variables s.cnf.now.clauses s.trail s.proof_log log i.logged.search i.logged.next
    (subst (λ (cs : List (List Lit)). IsRefutingLog cs s.proof_log log) same c.in_ok-log-in-Some.ensures)

pub returns : goal.returns
returns c = λ keeps. (let s = c.args.self in
    let i = c.requires.searching in
    let u = c.propagate.new.self in
    let quiet : IsQuiet u.clauses (literals_of u.entries) = subst
    (λ (o : Option ℕ). EndsWith o u) c.in-None.is c.in_ok-conflict.ensures.ends in
    let same : u.clauses ≡ s.trail.clauses = ap (λ (t : TrailState). t.clauses) c.in_ok-conflict.ensures.ok.rest_stays
    ∙ ap (λ (t : TrailState). t.clauses) c.undo_to.ensures.value in
    search_spent s.reduces s.cnf.now.variables s.cnf.now.clauses s.trail s.proof_log.steps.items (numbers_of s.proof_log.database) s.budget
    c.in_ok-learnt_clauses-in-None.field-0 i.logged.search (omega (arith, i.only keeps, i.few, i.within, c.requires.spent))
    (c.in_ok-learnt_clauses-in-None.ensures ∙ ap clauses_of c.into_log.ensures) (quiet_reaches s.trail.clauses (literals_of u.entries)
    (subst (λ (cs : List (List Lit)). IsQuiet cs (literals_of u.entries)) same quiet)) keeps)
