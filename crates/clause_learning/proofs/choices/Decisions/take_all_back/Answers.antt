use Rattle.std.proofs.Common.{◌≡◌, ◌+◌, ◌-◌, ◌||◌, eqb, ℕ, ap, sym, subst, ◌∙◌, arith}
use Rattle.std.specs.Prelude.{option_map}
use Rattle.std.proofs.lemmas.Option.{same_Some}
use Rattle.base_library.proofs.Places.{slice_get_some}
use Rattle.clause_core.specs.Literals.{Lit}
use Rattle.sat_trail.specs.declared.entries.Entry.{Entry}
use Rattle.clause_learning.specs.declared.choices.Decisions.{Decisions}
use Rattle.clause_learning.specs.declared.queue.VariableQueue.{VariableQueue}
use Rattle.clause_learning.specs.Queues.{variable_count, is_queued}
use Rattle.clause_learning.proofs.Deciding.{AreGiven, given_more, decisions_given, decisions_repeated, decisions_freed}
use Rattle.clause_learning.proofs.choices.Decisions.take_all_back.Goals as goal

pub give_back-requires-clause-within : goal.give_back-requires-clause-within
give_back-requires-clause-within c =
    let t = c.args.trail.now in
    let last = c.loop-place.place - 1 in
    let r = slice_get_some t.entries last (omega (arith, c.loop-place-test.true, c.loop-place.invariant.within)) in
    let is : r.0.literal ≡ c.set_at-literal.result = same_Some r.0.literal c.set_at-literal.result
    (ap (option_map (λ (e : Entry). e.literal)) (sym r.1) ∙ c.set_at-literal.ensures) in
    omega (
      arith,
      (c.requires.sound.stand last r.0 r.1).over,
      ap (λ (l : Lit). l.index) is,
      c.loop-place.invariant.decisions.one_activity_each,
      ap (λ (d : Decisions). variable_count d.queue) c.repeat_if.ensures,
    )

pub loop-place-preserved : goal.loop-place-preserved
loop-place-preserved c =
    let t = c.args.trail.now in
    let last = c.loop-place.place - 1 in
    let i = c.loop-place.invariant in
    let r = slice_get_some t.entries last (omega (arith, c.loop-place-test.true, i.within)) in
    let is : r.0.literal ≡ c.set_at-literal.result = same_Some r.0.literal c.set_at-literal.result
    (ap (option_map (λ (e : Entry). e.literal)) (sym r.1) ∙ c.set_at-literal.ensures) in
    let given = c.give_back.ensures in
    let before = c.repeat_if.new.self in
    let next : c.loop-place.place ≡ last + 1 = omega (arith, c.loop-place-test.true) in
    let same : before.queue ≡ c.loop-place.self.queue = ap (λ (d : Decisions). d.queue) c.repeat_if.ensures in
    record {
      decisions = decisions_given t.variables t.entries before c.give_back.new.self c.set_at-literal.result.index
          (decisions_repeated t.variables t.entries c.loop-place.self before c.repeat_if.ensures i.decisions) given.each
          given.queued;
      given = given_more t.entries last r.0 before.queue c.give_back.new.self.queue r.1
          (λ other. given.queued other ∙ ap (λ (l : Lit). is_queued before.queue other || eqb other l.index) (sym is))
          (subst (λ (q : VariableQueue). AreGiven t.entries (last + 1) q) (sym same)
          (subst (λ (p : ℕ). AreGiven t.entries p c.loop-place.self.queue) next i.given));
      within = omega (arith, i.within);
    }

pub returns : goal.returns
returns c =
    let i = c.loop-place.invariant in
    let none : c.loop-place.place ≡ 0 = omega (arith, c.loop-place-test.false) in
    decisions_freed c.args.trail.now c.loop-place.self i.decisions
    (subst (λ (p : ℕ). AreGiven c.args.trail.now.entries p c.loop-place.self.queue) none i.given)
