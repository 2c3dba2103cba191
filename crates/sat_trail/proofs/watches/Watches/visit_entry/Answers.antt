use Rattle.std.proofs.Common.{◌≡◌, ◌+◌, ◌-◌, ◌<◌, length, Some, slice_get, sym, ap, subst, refl, arith, ◌∙◌}
use Rattle.std.proofs.lemmas.Option.{slice_get_within}
use Rattle.base_library.proofs.Places.{slice_get_some}
use Rattle.clause_core.specs.Literals.{negation, code_of}
use Rattle.clause_core.proofs.Sets.{code_within}
use Rattle.sat_trail.specs.declared.entries.Entry.{Entry}
use Rattle.sat_trail.specs.States.{IsFalseAt}
use Rattle.sat_trail.specs.declared.watches.Watches.{Watches}
use Rattle.sat_trail.specs.internal.Watching.{AreDue, IsVisiting, StaysAt}
use Rattle.sat_trail.proofs.Soundness.{length_entries}
use Rattle.sat_trail.proofs.TrailSteps.{propagates_none}
use Rattle.sat_trail.proofs.Stays.{ready_after, grows_after}
use Rattle.sat_trail.proofs.Visits.{falsified_is, falsified_over, visit_begins, list_read, watched_visited, match_none}
use Rattle.sat_trail.proofs.watches.Watches.visit_entry.Goals as goal
use Rattle.sat_trail.proofs.watches.Watches.visit_entry.Goals.{After-note_place}

-- the entry that is visited makes the literal false
false_by : (c : After-note_place) → (e : Entry) × (slice_get c.args.stack.now.entries c.args.self.now.head ≡ Some e)
    × (e.literal ≡ negation c.negated-falsified.result)
false_by c =
    let t = c.args.stack.now in
    let found = slice_get_some t.entries c.args.self.now.head c.requires.more in (
      found.0,
      found.1,
      falsified_is t c.args.self.now.head found.0 c.set_at.result c.negated-falsified.result found.1 c.set_at.ensures
          c.negated-falsified.ensures,
    )

inside : (c : After-note_place) → code_of c.negated-falsified.result < length c.note_place.new.self.lists.items
inside c =
    let t = c.args.stack.now in
    let f = c.negated-falsified.result in
    let e = false_by c in
    omega (
      arith,
      code_within t.variables f (falsified_over t c.requires.ready.sound c.args.self.now.head e.0 f e.1 e.2),
      c.requires.ready.watched.lists_all,
      ap (λ (x : Watches). length x.lists.items) c.note_place.ensures.rest,
    )

pub index-requires : goal.index-requires
index-requires c = omega
    (arith, inside (goal.at.index-requires c).After-note_place, c.code.ensures, c.note_place.new.self.lists.ok.0)

pub loop-index-init : goal.loop-index-init
loop-index-init c =
    let t = c.args.stack.now in
    let w = c.args.self.now in
    let v = c.note_place.new.self in
    let f = c.negated-falsified.result in
    let e = false_by (goal.at.loop-index-init c).After-note_place in
    let begins = visit_begins t w v f e.0 c.index.result.now c.requires.ready e.1 e.2 (list_read v.lists.items (code_of f)
    c.code.result c.index.result.now c.code.ensures c.index.ensures (inside (goal.at.loop-index-init c).After-note_place))
    c.note_place.ensures.rest (c.note_place.ensures.low e.0 e.1) in
    record {
      ready = begins.0;
      grows = propagates_none t;
      visiting = subst (IsVisiting t v f) (sym c.len-index.ensures) begins.1;
      stays = subst (StaysAt w) (sym c.note_place.ensures.rest) (record { head = refl; left = λ count. refl });
    }

pub returns-then-is_some-clause-grows : goal.returns-then-is_some-clause-grows
returns-then-is_some-clause-grows c = grows_after c.loop-index.invariant.grows c.in_ok-conflict.ensures.visits.grows

pub loop-index-preserved : goal.loop-index-preserved
loop-index-preserved c = record {
  ready = ready_after c.loop-index.invariant.ready c.visit.ensures.sound c.in_ok-conflict.ensures.visits.grows;
  grows = (grows_after c.loop-index.invariant.grows c.in_ok-conflict.ensures.visits.grows).propagates;
  visiting = record {
    visit = c.in_ok-conflict.ensures.visits.visit;
    due = match_none (AreDue c.visit.new.stack c.visit.new.self c.negated-falsified.result (c.loop-index.index - 1))
        (IsFalseAt c.visit.new.stack) c.in_ok-conflict.conflict (sym c.is_some.ensures ∙ c.if-is_some.false) c.in_ok-conflict.ensures.ends;
  };
  stays = record {
    head = c.visit.ensures.stays.head ∙ c.loop-index.invariant.stays.head;
    left = λ count. c.visit.ensures.stays.left count ∙ c.loop-index.invariant.stays.left count;
  };
}

pub overflow_add-self : goal.overflow_add-self
overflow_add-self c =
    let t = c.loop-index.stack in
    let sound = c.loop-index.invariant.ready.sound in
    let visit = c.loop-index.invariant.visiting.visit in
    omega (
      arith,
      slice_get_within t.entries c.loop-index.self.head visit.entry visit.there,
      length_entries t.variables t.clauses t.entries sound.stand,
      sound.few_variables,
    )

pub returns-clause-grows : goal.returns-clause-grows
returns-clause-grows c =
    let w = c.loop-index.self in
    let kept = c.loop-index.invariant in
    let e : c.loop-index.index ≡ 0 = omega (arith, c.loop-index-test.false) in record {
      propagates = kept.grows;
      watched = watched_visited c.loop-index.stack w (record w { head = w.head + 1 }) c.negated-falsified.result kept.ready.watched
          (subst (IsVisiting c.loop-index.stack w c.negated-falsified.result) e kept.visiting) refl;
    }
