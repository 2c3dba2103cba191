use Rattle.std.proofs.Common.{◌≡◌, length, ap, sym, subst, ◌∙◌, arith}
use Rattle.sat_trail.specs.States.{TrailState}
use Rattle.clause_learning.specs.Units.{AreUnits}
use Rattle.sat_core.proofs.SearchNotes.{noted_rest, searching_found, searching_propagated}
use Rattle.sat_core.proofs.search.Search.propagate.Goals as goal

pub returns-then-is_some-clause-searching : goal.returns-then-is_some-clause-searching
returns-then-is_some-clause-searching c = searching_found c.requires c.in_ok-conflict.ensures.ok c.in_ok-conflict.ensures.sound

pub note_all-requires : goal.note_all-requires
note_all-requires c =
    let i = c.requires in
    let rest = c.in_ok-conflict.ensures.ok.rest_stays in
    let clauses : length c.propagate.new.self.clauses ≡ length c.args.self.now.trail.clauses =
    ap (λ (t : TrailState). length t.clauses) rest in
    record {
      usable = ap (λ (t : TrailState). t.broken) rest ∙ i.logged.search.usable;
      sound = c.in_ok-conflict.ensures.sound;
      start = omega (arith, c.level.ensures.value, c.if-level-gt0.false);
      table = subst (λ (t : TrailState). AreUnits t c.args.self.now.units) (sym rest)
          (record { one_each = i.table.one_each; within = i.table.within });
      added = i.few;
      few = omega (arith, clauses, i.logged.search.fewer, i.within, i.few, i.room);
      next = omega (arith, i.logged.next, i.within, i.few, i.room);
      numbers = i.logged.search.named.one_each ∙ sym clauses;
    }

pub propagate-requires-2 : goal.propagate-requires-2
propagate-requires-2 c =
    let s = c.args.self.now in
    let noted = c.in_ok-note_all.ensures.noted in
    ap (λ (t : TrailState). t.broken)
    (noted_rest noted.0 c.propagate.new.self c.note_all.new.trail s.proof_log c.note_all.new.proof_log noted.1)
    ∙ (ap (λ (t : TrailState). t.broken) c.in_ok-conflict.ensures.ok.rest_stays ∙ c.requires.logged.search.usable)

pub returns-clause-searching : goal.returns-clause-searching
returns-clause-searching c =
    let n = c.in_ok-note_all.ensures in
    (searching_propagated c.requires c.in_ok-conflict.ensures.ok c.in_ok-conflict.ensures.sound n.noted n.sound n.units n.added n.most
    c.in_ok-propagate.ensures.ok c.in_ok-propagate.ensures.sound).0

pub returns-clause-spent : goal.returns-clause-spent
returns-clause-spent c =
    let n = c.in_ok-note_all.ensures in
    (searching_propagated c.requires c.in_ok-conflict.ensures.ok c.in_ok-conflict.ensures.sound n.noted n.sound n.units n.added n.most
    c.in_ok-propagate.ensures.ok c.in_ok-propagate.ensures.sound).1

pub returns-clause-grown : goal.returns-clause-grown
returns-clause-grown c =
    let n = c.in_ok-note_all.ensures in
    (searching_propagated c.requires c.in_ok-conflict.ensures.ok c.in_ok-conflict.ensures.sound n.noted n.sound n.units n.added n.most
    c.in_ok-propagate.ensures.ok c.in_ok-propagate.ensures.sound).2
