use Rattle.std.proofs.Common.{◌≡◌, ◌+◌, List, length, ap, arith}
use Rattle.std.proofs.lemmas.List.{length_push}
use Rattle.refutation_check.specs.declared.steps.Step.{Step}
use Rattle.clause_learning.specs.ClauseDatabases.{numbers_of, log_hints}
use Rattle.clause_learning.specs.LearntClauses.{learnt_step}
use Rattle.sat_core.proofs.Searching.{search_learnt}
use Rattle.sat_core.proofs.SearchNotes.{can_learn}
use Rattle.sat_core.proofs.search.Search.learn.Goals as goal

pub learn-requires-clause-ready : goal.learn-requires-clause-ready
learn-requires-clause-ready c = can_learn c.requires.searching

pub learn-requires-clause-conflict : goal.learn-requires-clause-conflict
learn-requires-clause-conflict c = record {
  here = c.requires.conflict;
  met = λ level below. (c.requires.searching.logged.search.calm level below).none_false;
  above = c.requires.above;
}

pub returns-clause-searching : goal.returns-clause-searching
returns-clause-searching c =
    let s = c.args.self.now in
    let i = c.requires.searching in
    let e = c.in_ok-learn.ensures in
    let after = c.learn.new.proof_log in
    let count : length after.steps.items ≡ length s.proof_log.steps.items + 1 = omega (
      arith,
      ap (λ (ss : List Step). length ss) e.learnt.steps_are,
      length_push s.proof_log.steps.items
          (learnt_step s.proof_log.next e.learnt.clause (log_hints (numbers_of s.proof_log.database) e.learnt.hints)),
    ) in
    record {
      no_tautology = i.no_tautology;
      logged = record {
        search = search_learnt s.reduces s.cnf.now.variables s.cnf.now.clauses c.is_due-anew.result s.trail c.learn.new.trail s.proof_log
            after i.logged.search i.logged.next e.learnt e.tables.sound c.requires.above;
        next = omega (arith, count, e.learnt.next_is, i.logged.next);
      };
      order = e.tables.order;
      none_seen = e.tables.none_seen;
      table = e.tables.table;
      within = omega (arith, count, c.requires.left);
      counted = omega (arith, count, i.counted);
      few = i.few;
      room = i.room;
      only = i.only;
      wanted = i.wanted;
    }
