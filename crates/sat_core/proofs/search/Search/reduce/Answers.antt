use Rattle.std.proofs.Common.{◌≡◌, ℕ, false, [], List, sym, subst, ◌∙◌, All, Contains, arith}
use Rattle.std.proofs.lemmas.List.Elements.{All-weaker, All-contains}
use Rattle.clause_core.specs.Literals.{Lit}
use Rattle.clause_core.specs.Clauses.{IsOver, has_pair}
use Rattle.sat_trail.specs.States.{TrailState}
use Rattle.clause_learning.specs.ClauseDatabases.{numbers_of}
use Rattle.clause_learning.specs.ConflictAnalysis.{AreNoneSeen}
use Rattle.clause_learning.specs.Decisions.{AreDecisions}
use Rattle.sat_core.proofs.Searching.{search_reduced}
use Rattle.sat_core.proofs.search.Search.reduce.Goals as goal

-- what holds of each clause on the trail holds of each that is kept
kept_all : (P : List Lit → Type 0) (old others : List (List Lit)) → All P old → All (Contains old) others → All P others
kept_all P old others all stood = All-weaker (Contains old) P (λ clause there. All-contains P old clause all there) others stood

pub with_learnt-requires-clause-over : goal.with_learnt-requires-clause-over
with_learnt-requires-clause-over c =
    let search = c.requires.logged.search in
    let t = c.args.self.now.trail in
    let learnt = c.in_ok-kept.kept.learnt.items in
    subst (λ (v : ℕ). All (IsOver v) learnt) search.same_variables
    (kept_all (IsOver t.variables) t.clauses learnt search.sound.over c.in_ok-kept.ensures.stood)

pub with_learnt-requires-clause-no_pairs : goal.with_learnt-requires-clause-no_pairs
with_learnt-requires-clause-no_pairs c = kept_all (λ clause. has_pair clause ≡ false) c.args.self.now.trail.clauses
    c.in_ok-kept.kept.learnt.items c.requires.logged.search.sound.no_pairs c.in_ok-kept.ensures.stood

pub returns-clause-searching : goal.returns-clause-searching
returns-clause-searching c =
    let s = c.args.self.now in
    let i = c.requires in
    let kept = c.in_ok-kept.kept in
    let u = c.in_ok-self.field-0 in
    let is = c.in_ok-self.ensures.ok in
    let search = search_reduced s.cnf.now.variables s.cnf.now.clauses s.reduces s.trail u s.proof_log.steps.items
    (numbers_of s.proof_log.database) kept.database i.logged.search (sym i.wanted ∙ c.is_due.ensures.wanted c.if-not-is_due.false) (record {
      others = kept.learnt.items;
      kept = c.in_ok-kept.ensures;
      trail_is = is;
    }) c.in_ok-self.ensures.sound in
    record {
      no_tautology = i.no_tautology;
      logged = record {
        search = search;
        next = i.logged.next;
      };
      order = subst (λ (t : TrailState). AreDecisions t.variables t.entries c.take_all_back.new.self) (sym is)
          (subst (λ (n : ℕ). AreDecisions n [] c.take_all_back.new.self) i.logged.search.same_variables c.in_ok-take_all_back.ensures);
      none_seen = subst (λ (n : ℕ). AreNoneSeen n s.analysis.seen) (i.logged.search.same_variables ∙ sym search.same_variables) i.none_seen;
      table = c.renew.ensures.units;
      within = omega (arith, i.within, c.renew.ensures.added);
      counted = omega (arith, i.counted, c.renew.ensures.added);
      few = omega (arith, i.few, c.renew.ensures.added, c.renew.ensures.most);
      room = omega (arith, i.room, c.renew.ensures.most);
      only = λ keeps. c.renew.ensures.most ∙ i.only keeps;
      wanted = c.is_due.ensures.same ∙ i.wanted;
    }
