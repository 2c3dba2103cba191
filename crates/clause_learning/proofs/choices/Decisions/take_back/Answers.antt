use Rattle.std.proofs.Common.{◌≡◌, ◌+◌, ◌-◌, ◌||◌, eqb, ℕ, ap, sym, subst, ◌∙◌, arith}
use Rattle.std.specs.Prelude.{option_map}
use Rattle.std.proofs.lemmas.Option.{same_Some}
use Rattle.base_library.proofs.Places.{slice_get_some}
use Rattle.clause_core.specs.Literals.{Lit}
use Rattle.sat_trail.specs.declared.entries.Entry.{Entry}
use Rattle.clause_learning.specs.Queues.{is_queued}
use Rattle.clause_learning.proofs.Deciding.{AreGiven, given_more, decisions_given, decisions_left}
use Rattle.clause_learning.proofs.Stages.{entry_levels}
use Rattle.clause_learning.proofs.choices.Decisions.take_back.Goals as goal

pub give_back-requires-clause-within : goal.give_back-requires-clause-within
give_back-requires-clause-within c =
    let t = c.args.trail.now in
    let last = c.loop-place.place - 1 in
    let r = slice_get_some t.entries last (omega (arith, c.loop-place-test.true, c.loop-place.invariant.within)) in
    let is : r.0.literal ≡ c.set_at.result = same_Some r.0.literal c.set_at.result
    (ap (option_map (λ (e : Entry). e.literal)) (sym r.1) ∙ c.set_at.ensures) in
    omega (
      arith,
      (c.requires.sound.stand last r.0 r.1).over,
      ap (λ (l : Lit). l.index) is,
      c.loop-place.invariant.decisions.one_activity_each,
    )

pub loop-place-preserved : goal.loop-place-preserved
loop-place-preserved c =
    let t = c.args.trail.now in
    let last = c.loop-place.place - 1 in
    let i = c.loop-place.invariant in
    let r = slice_get_some t.entries last (omega (arith, c.loop-place-test.true, i.within)) in
    let is : r.0.literal ≡ c.set_at.result = same_Some r.0.literal c.set_at.result
    (ap (option_map (λ (e : Entry). e.literal)) (sym r.1) ∙ c.set_at.ensures) in
    let given = c.give_back.ensures in
    let next : c.loop-place.place ≡ last + 1 = omega (arith, c.loop-place-test.true) in
    record {
      decisions = decisions_given t.variables t.entries c.loop-place.self c.give_back.new.self c.set_at.result.index i.decisions given.each
          given.queued;
      given = given_more t.entries last r.0 c.loop-place.self.queue c.give_back.new.self.queue r.1
          (λ other. given.queued other
          ∙ ap (λ (l : Lit). is_queued c.loop-place.self.queue other || eqb other l.index) (sym is))
          (subst (λ (p : ℕ). AreGiven t.entries p c.loop-place.self.queue) next i.given);
      within = omega (arith, i.within);
    }

pub returns-after-loop-place : goal.returns-after-loop-place
returns-after-loop-place c =
    let t = c.args.trail.now in
    let i = c.loop-place.invariant in
    decisions_left t c.requires.sound c.loop-place.self c.args.level c.loop-place.place i.decisions i.given
    (λ k e at below. absurd (omega (arith, below, c.loop-place-test.false)))

pub returns-then-level_at-level : goal.returns-then-level_at-level
returns-then-level_at-level c =
    let t = c.args.trail.now in
    let i = c.loop-place.invariant in
    let last = c.loop-place.place - 1 in
    let r = slice_get_some t.entries last (omega (arith, c.loop-place-test.true, i.within)) in
    let is : r.0.level ≡ c.level_at.result = same_Some r.0.level c.level_at.result
    (ap (option_map (λ (e : Entry). e.level)) (sym r.1) ∙ c.level_at.ensures) in
    decisions_left t c.requires.sound c.loop-place.self c.args.level c.loop-place.place i.decisions i.given
    (λ k e at below. omega (
      arith,
      entry_levels t c.requires.sound k last e r.0 at r.1 (omega (arith, below)),
      is,
      c.if-level_at-level.true,
    ))
