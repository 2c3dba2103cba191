use Rattle.std.proofs.Common.{◌≡◌, ◌<◌, ℕ, List, Bool, false, length, get_or, refl, ap₂, ◌+◌, ◌∷◌, [], None, ap, sym, subst, ◌∙◌, arith, inl, inr}
use Rattle.std.proofs.lemmas.Option.{get_or_from_slice_get, slice_get_read}
use Rattle.sat_trail.specs.Entries.{place_of, entry_with}
use Rattle.sat_trail.specs.States.{TrailState}
use Rattle.sat_trail.proofs.Places.{value_unset}
use Rattle.clause_learning.specs.declared.choices.Decisions.{Decisions}
use Rattle.clause_learning.specs.declared.queue.VariableQueue.{VariableQueue}
use Rattle.clause_learning.specs.Decisions.{IsUnset, IsNextUnset, AreDecisions}
use Rattle.clause_learning.proofs.Deciding.{decisions_grown, decisions_repeated}
use Rattle.clause_learning.proofs.choices.Decisions.decide.Goals as goal

pub index-requires : goal.index-requires
index-requires c = omega (
  arith,
  c.in-Some-next_variable.ensures.found.unset.over,
  c.next_variable.ensures.values,
  c.next_variable.new.self.phases.ok.0,
)

pub decide-requires-2-clause-unassigned : goal.decide-requires-2-clause-unassigned
decide-requires-2-clause-unassigned c =
    let t = c.args.trail.now in
    let same_index : c.of_variable-literal.result.index ≡ c.in-Some-next_variable.index =
    omega (arith, c.of_variable-literal.ensures.index) in
    value_unset t.entries c.of_variable-literal.result (ap (place_of t.entries) same_index ∙ c.in-Some-next_variable.ensures.found.unset.unset)

pub returns : goal.returns
returns c =
    let t = c.args.trail.now in
    let l = c.of_variable-literal.result in
    let same_index : l.index ≡ c.in-Some-next_variable.index = omega (arith, c.of_variable-literal.ensures.index) in
    let phases = c.next_variable.new.self.phases.items in
    let within : c.in-Some-next_variable.index < length phases =
    omega (arith, c.in-Some-next_variable.ensures.found.unset.over, c.next_variable.ensures.values) in
    let read = get_or_from_slice_get phases c.in-Some-next_variable.index c.index.result.now false
    (slice_get_read phases (length phases) c.in-Some-next_variable.index c.index.result.now refl within c.index.ensures) in
    let same_phases : phases ≡ c.args.self.now.phases.items =
    c.next_variable.ensures.phases ∙ ap (λ (d : Decisions). d.phases.items) c.next_repeated.ensures.rest in
    record {
      literal = l;
      unset = subst (IsUnset t.entries t.variables) (sym same_index) c.in-Some-next_variable.ensures.found.unset;
      chosen = inr (
        subst (λ (q : VariableQueue). IsNextUnset t.entries t.variables q l.index) (ap (λ (d : Decisions). d.queue) c.next_repeated.ensures.rest)
            (subst (IsNextUnset t.entries t.variables c.next_repeated.new.self.queue) (sym same_index) c.in-Some-next_variable.ensures.found),
        c.of_variable-literal.ensures.positive ∙ (sym read ∙ ap₂ (λ (xs : List Bool) (k : ℕ). get_or xs k false) same_phases (sym same_index)),
      );
      trail_is = c.in_ok-decide-2.ensures.ok;
      sound = c.decide-2.ensures.sound;
      decisions = subst (λ (s : TrailState). AreDecisions s.variables s.entries c.next_variable.new.self)
          (sym c.in_ok-decide-2.ensures.ok) (c.in-Some-next_variable.ensures.decisions (entry_with l (t.level + 1) None) same_index);
    }

pub decide-requires-clause-unassigned : goal.decide-requires-clause-unassigned
decide-requires-clause-unassigned c = value_unset c.args.trail.now.entries c.in-Some.literal c.in-Some.ensures.unset.unset

pub returns-in-Some : goal.returns-in-Some
returns-in-Some c =
    let t = c.args.trail.now in
    let l = c.in-Some.literal in
    let n = c.next_repeated.new.self in
    record {
      literal = l;
      unset = c.in-Some.ensures.unset;
      chosen = inl c.in-Some.ensures.repeated;
      trail_is = c.in_ok-decide.ensures.ok;
      sound = c.decide.ensures.sound;
      decisions = subst (λ (s : TrailState). AreDecisions s.variables s.entries n) (sym c.in_ok-decide.ensures.ok)
          (decisions_grown t.variables t.entries (entry_with l (t.level + 1) None ∷ []) n
          (decisions_repeated t.variables t.entries c.args.self.now n c.next_repeated.ensures.rest c.requires.decisions));
    }
