use Rattle.std.proofs.Common.{◌≡◌, ℕ, ◌++◌, ◌∷◌, [], true, Option, Some, List, length, set, sym, subst, ap, ◌∙◌, arith}
use Rattle.std.specs.Prelude.{is_ok}
use Rattle.std.proofs.lemmas.Bool.{cond-true, cond-false}
use Rattle.sat_trail.specs.internal.Tables.{IsPlaceTable, AreTruths}
use Rattle.sat_trail.specs.declared.entries.Entry.{Entry}
use Rattle.sat_trail.specs.Entries.{entry_with, MayStand}
use Rattle.sat_trail.specs.States.{TrailState, IsSound}
use Rattle.sat_trail.proofs.Places.{table_push, truths_push}
use Rattle.sat_trail.proofs.Soundness.{sound_broken, sound_extended, length_entries}
use Rattle.sat_trail.proofs.TrailSteps.{seen}
use Rattle.sat_trail.proofs.stack.Stack.set.Goals as goal

pub overflow_cast-place : goal.overflow_cast-place
overflow_cast-place c =
    let inside = c.self.inside in
    let sound = c.self.invariant.0 in
    omega (
      arith,
      length_entries inside.variables inside.clauses inside.entries.items sound.stand,
      sound.few_variables,
      c.len-place.ensures,
      inside.entries.ok.0,
    )

pub invariant_of-self : goal.invariant_of-self
invariant_of-self c =
    let inside = c.self.inside in
    let e : Entry = entry_with c.args.literal c.args.level c.args.reason in
    let t = seen inside in
    let same : c.push.new.self.items ≡ inside.entries.items = c.push.ensures.items
    ∙ cond-false (is_ok c.push.result) (inside.entries.items ++ e ∷ []) inside.entries.items c.if-is_err.ensures.negation in (
      subst (λ (es : List Entry). IsSound (record t { entries = es; broken = true })) (sym same) (sound_broken t true c.self.invariant.0),
      subst (IsPlaceTable inside.variables inside.places.items) (sym same) c.self.invariant.1,
      subst (AreTruths inside.variables inside.truths.items) (sym same) c.self.invariant.2,
    )

pub returns-then-is_err-clause-sound : goal.returns-then-is_err-clause-sound
returns-then-is_err-clause-sound c = (invariant_of-self c).0

pub invariant_of-self-2 : goal.invariant_of-self-2
invariant_of-self-2 c =
    let inside = c.self.inside in
    let e : Entry = entry_with c.args.literal c.args.level c.args.reason in
    let t = seen inside in
    let is : t ≡ c.args.self.now = c.self.view_is in
    let same : c.push.new.self.items ≡ inside.entries.items ++ e ∷ [] =
    c.push.ensures.items ∙ cond-true (is_ok c.push.result) (inside.entries.items
    ++ e ∷ []) inside.entries.items c.if-is_err.ensures.negation in
    let may : MayStand t.variables t.clauses t.entries e = subst (λ (s : TrailState). MayStand s.variables s.clauses s.entries e)
    (sym is) c.requires in
    let place : Some c.len-place.result ≡ Some (length inside.entries.items) =
    ap Some (let n : c.len-place.result ≡ length inside.entries.items = omega (arith, c.len-place.ensures, inside.entries.ok.0) in n) in
    let table : IsPlaceTable inside.variables (set inside.places.items c.args.literal.index (Some (length inside.entries.items)))
    (inside.entries.items ++ e ∷ []) = table_push inside.variables inside.places.items inside.entries.items e c.self.invariant.1
    may.over may.unset in (
      subst (λ (es : List Entry). IsSound (record t { entries = es; level = c.args.level })) (sym same)
          (sound_extended t e c.self.invariant.0 may),
      subst (λ (es : List Entry). IsPlaceTable inside.variables (set inside.places.items c.index.result (Some c.len-place.result)) es)
          (sym same) (subst (λ (i : ℕ). IsPlaceTable inside.variables (set inside.places.items i (Some c.len-place.result))
          (inside.entries.items ++ e ∷ [])) (sym c.index.ensures.value)
          (subst (λ (o : Option ℕ). IsPlaceTable inside.variables (set inside.places.items c.args.literal.index o)
          (inside.entries.items ++ e ∷ [])) (sym place) table)),
      subst (λ (es : List Entry). AreTruths inside.variables (set inside.truths.items c.code.result true) es) (sym same)
          (subst (λ (i : ℕ). AreTruths inside.variables (set inside.truths.items i true) (inside.entries.items ++ e ∷ []))
          (sym c.code.ensures) (truths_push inside.variables inside.truths.items inside.entries.items e c.self.invariant.2 may.over)),
    )

pub returns-clause-sound : goal.returns-clause-sound
returns-clause-sound c = (invariant_of-self-2 c).0
