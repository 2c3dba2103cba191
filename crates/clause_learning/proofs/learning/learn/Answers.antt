use Rattle.std.proofs.Common.{◌≡◌, ℕ, List, length, All, ◌<◌, ap, sym, subst, ◌∙◌, arith}
use Rattle.std.proofs.lemmas.List.{length_push}
use Rattle.clause_core.specs.Literals.{Lit}
use Rattle.clause_core.specs.Clauses.{IsOver, has_pair}
use Rattle.sat_trail.specs.States.{TrailState, with_clause, undone}
use Rattle.clause_learning.specs.Hints.{AreHints}
use Rattle.clause_learning.specs.LearntClauses.{TakesStep, level_after}
use Rattle.clause_learning.specs.ClauseDatabases.{numbers_of}
use Rattle.clause_learning.specs.ConflictAnalysis.{AreNoneSeen}
use Rattle.clause_learning.specs.Decisions.{AreDecisions}
use Rattle.clause_learning.proofs.LearntClauseLemmas.{learnt_clause_over, learnt_clause_no_pair, copied}
use Rattle.clause_learning.proofs.learning.learn.Goals as goal

pub learn-requires-clause-over : goal.learn-requires-clause-over
learn-requires-clause-over c =
    let t = c.args.trail.now in
    let learnt_clause = c.in_ok-learnt_clause.learnt_clause in
    let copy : c.in_ok-clause_of.field-0 ≡ learnt_clause.clause = copied c.in_ok-clause_of.field-0 learnt_clause.clause c.literals.result.now
    c.in_ok-clause_of.ensures c.literals.ensures.value c.literals.ensures.increasing in
    subst (λ (ls : List Lit). IsOver c.undo_to.new.self.variables ls) (sym copy)
    (subst (λ (s : TrailState). IsOver s.variables learnt_clause.clause) (sym c.undo_to.ensures.value)
    (learnt_clause_over t c.requires.ready.sound learnt_clause.clause learnt_clause.hints.items learnt_clause.back
    c.in_ok-learnt_clause.ensures.learnt_clause))

pub learn-requires-clause-no_pair : goal.learn-requires-clause-no_pair
learn-requires-clause-no_pair c =
    let t = c.args.trail.now in
    let learnt_clause = c.in_ok-learnt_clause.learnt_clause in
    let copy : c.in_ok-clause_of.field-0 ≡ learnt_clause.clause = copied c.in_ok-clause_of.field-0 learnt_clause.clause c.literals.result.now
    c.in_ok-clause_of.ensures c.literals.ensures.value c.literals.ensures.increasing in
    ap has_pair copy ∙ learnt_clause_no_pair t c.requires.ready.sound learnt_clause.clause learnt_clause.hints.items learnt_clause.back
    c.in_ok-learnt_clause.ensures.learnt_clause

pub returns-clause-learnt : goal.returns-clause-learnt
returns-clause-learnt c =
    let t = c.args.trail.now in
    let learnt_clause = c.in_ok-learnt_clause.learnt_clause in
    let copy : c.in_ok-clause_of.field-0 ≡ learnt_clause.clause = copied c.in_ok-clause_of.field-0 learnt_clause.clause c.literals.result.now
    c.in_ok-clause_of.ensures c.literals.ensures.value c.literals.ensures.increasing in
    let target : ℕ = level_after c.args.anew c.args.steps learnt_clause.back t.level in
    let back : c.undo_to.new.self ≡ undone t target = c.undo_to.ensures.value ∙ ap (undone t) (c.level_after-level.ensures
    ∙ ap (level_after c.args.anew c.args.steps learnt_clause.back) c.level.ensures.value) in
    let hints : c.as_slice-2.result.now ≡ learnt_clause.hints.items = c.as_slice-2.ensures.value in
    record {
      clause = learnt_clause.clause;
      hints = learnt_clause.hints.items;
      back = learnt_clause.back;
      learnt_clause = c.in_ok-learnt_clause.ensures.learnt_clause;
      trail_is = c.in_ok-learn.ensures.ok ∙ (ap (λ (s : TrailState). with_clause s c.in_ok-clause_of.field-0) back
          ∙ ap (with_clause (undone t target)) copy);
      step = subst (λ (hs : List ℕ). TakesStep c.args.proof_log.now learnt_clause.clause hs c.add.new.self) hints c.in_ok-add.ensures;
    }

pub add-requires-clause-named : goal.add-requires-clause-named
add-requires-clause-named c = subst (AreHints (length (numbers_of c.args.proof_log.now.database))) (sym c.as_slice-2.ensures.value)
    (subst (λ (n : ℕ). AreHints n c.in_ok-learnt_clause.learnt_clause.hints.items) (sym c.requires.ready.numbers)
    c.in_ok-learnt_clause.ensures.learnt_clause.named)

pub bump-requires-clause-queue : goal.bump-requires-clause-queue
bump-requires-clause-queue c = c.requires.decisions.queue

pub bump-requires-clause-within : goal.bump-requires-clause-within
bump-requires-clause-within c = subst (λ (n : ℕ). All (λ variable. variable < n) c.as_slice.result.now)
    (sym c.requires.decisions.one_activity_each) (subst (All (λ variable. variable < c.args.trail.now.variables))
    (sym c.as_slice.ensures.value) c.in_ok-learnt_clause.ensures.looked)

pub take_back-requires-clause-decisions : goal.take_back-requires-clause-decisions
take_back-requires-clause-decisions c =
    c.bump.ensures c.args.trail.now.variables c.args.trail.now.entries c.requires.decisions

pub returns-clause-tables : goal.returns-clause-tables
returns-clause-tables c =
    let undone' = c.undo_to.ensures.value in
    let learnt = c.in_ok-learn.ensures.ok in
    let table = c.requires.ready.table in
    record {
      sound = c.in_ok-learn.ensures.sound;
      none_seen = subst (λ (n : ℕ). AreNoneSeen n c.learnt_clause_of.new.analysis.seen) (sym (ap (λ (s : TrailState). s.variables) learnt
          ∙ ap (λ (s : TrailState). s.variables) undone')) c.in_ok-learnt_clause.ensures.seen;
      table = record {
        one_each = table.one_each
            ∙ sym (ap (λ (s : TrailState). s.variables) learnt ∙ ap (λ (s : TrailState). s.variables) undone');
        within = omega (
          arith,
          table.within,
          ap (λ (s : TrailState). length s.clauses) learnt,
          ap (λ (s : TrailState). length s.clauses) undone',
          length_push c.undo_to.new.self.clauses c.in_ok-clause_of.field-0,
        );
      };
      order = subst (λ (s : TrailState). AreDecisions s.variables s.entries c.take_back.new.self)
          (sym (learnt ∙ ap (λ (s : TrailState). with_clause s c.in_ok-clause_of.field-0) undone')) c.take_back.ensures;
    }
