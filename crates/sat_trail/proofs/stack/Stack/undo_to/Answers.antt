use Rattle.std.proofs.Common.{◌≡◌, ◌++◌, ◌∷◌, [], ◌-◌, ◌≤◌, ℕ, List, Some, None, false, length, take, set, min, slice_get, refl, sym, subst}
use Rattle.std.proofs.Common.{ap, ◌∙◌, arith}
use Rattle.base_library.proofs.Places.{last_split}
use Rattle.sat_trail.specs.internal.Tables.{IsPlaceTable, AreTruths}
use Rattle.sat_trail.specs.declared.entries.Entry.{Entry}
use Rattle.sat_trail.specs.Entries.{level_of}
use Rattle.sat_trail.specs.States.{TrailState, IsSound, up_to, undone}
use Rattle.sat_trail.proofs.Places.{truths_pop, code_inside}
use Rattle.sat_trail.proofs.Soundness.{AllStand}
use Rattle.sat_trail.proofs.TrailSteps.{TakesBack, takes_back, left_is, top_some, top_none, state_same, seen, sound_left}
use Rattle.sat_trail.proofs.stack.Stack.undo_to.Goals as goal
use Rattle.sat_trail.proofs.stack.Stack.undo_to.Goals.{After-index, in-Some+then-last-level, in_default}

-- the entry at the end of these is the one that a look at the end gave, behind those that the pop leaves
ends_with : (es read ys : List Entry) (n : ℕ) (e : Entry) → read ≡ es → n ≡ length es → ys ≡ take (n - 1) es →
    slice_get read (length read - 1) ≡ Some e → es ≡ ys ++ e ∷ []
ends_with es read ys n e same len rest at =
    last_split es e (ap (λ (xs : List Entry). slice_get xs (length xs - 1)) (sym same) ∙ at)
    ∙ ap (λ (xs : List Entry). xs ++ e ∷ []) (sym (rest ∙ ap (λ k. take (k - 1) es) len))

split : (c : After-index) → c.loop-last.self-inside.entries.items ≡ c.pop.new.self.items ++ c.in-Some.last ∷ []
split c =
    let now = c.loop-last.self-inside in
    ends_with now.entries.items c.deref.result.now c.pop.new.self.items now.entries.len c.in-Some.last c.deref.ensures.value
    now.entries.ok.0 c.pop.ensures.rest (sym c.last.ensures.value ∙ sym c.in-Some.ensures)

taken : (c : After-index) → TakesBack c.loop-last.self-inside.variables c.args.level c.loop-last.self-inside.places.items
    c.self.inside.entries.items c.loop-last.self-inside.entries.items c.pop.new.self.items c.in-Some.last
taken c =
    let now = c.loop-last.self-inside in
    let kept = c.loop-last.invariant in
    let stand : AllStand now.variables c.self.inside.clauses c.self.inside.entries.items =
    subst (λ (v : ℕ). AllStand v c.self.inside.clauses c.self.inside.entries.items)
    (sym kept.variables) c.self.invariant.0.stand in
    takes_back now.variables c.self.inside.clauses c.args.level now.places.items c.self.inside.entries.items now.entries.items
    c.pop.new.self.items c.in-Some.last stand kept.front kept.table (split c) c.if-last-level.false

pub index_mut-requires : goal.index_mut-requires
index_mut-requires c =
    let t = taken c in
    omega (arith, t.below, c.index.ensures.value, c.loop-last.invariant.table.all, c.loop-last.self-inside.places.ok.0)

pub index_mut-requires-in-Some : goal.index_mut-requires-in-Some
index_mut-requires-in-Some c =
    let t = taken (goal.at.index_mut-requires-in-Some c).After-index in
    omega (
      arith,
      code_inside c.loop-last.self-inside.variables c.loop-last.self-inside.truths.items c.loop-last.self-inside.entries.items
          c.in-Some.last.literal c.loop-last.invariant.truths t.below,
      c.code.ensures,
      c.loop-last.self-inside.truths.ok.0,
    )

pub loop-last-preserved : goal.loop-last-preserved
loop-last-preserved c =
    let t = taken (goal.at.loop-last-preserved c).After-index in
    let kept = c.loop-last.invariant in
    record {
      variables = kept.variables;
      clauses = kept.clauses;
      level = kept.level;
      broken = kept.broken;
      short = omega (arith, t.shorter, kept.short);
      front = t.front;
      left = t.left ∙ kept.left;
      truths = subst (λ (n : ℕ). AreTruths c.loop-last.self-inside.variables
          (set c.loop-last.self-inside.truths.items n false) c.pop.new.self.items) (sym c.code.ensures)
          (truths_pop c.loop-last.self-inside.variables c.loop-last.self-inside.truths.items c.pop.new.self.items c.in-Some.last
          (subst (AreTruths c.loop-last.self-inside.variables c.loop-last.self-inside.truths.items)
          (split (goal.at.loop-last-preserved c).After-index) kept.truths) t.below t.unset);
      table = subst (λ (i : ℕ). IsPlaceTable c.loop-last.self-inside.variables
          (set c.loop-last.self-inside.places.items i None) c.pop.new.self.items) (sym c.index.ensures.value) t.table;
      top = λ _. t.top;
    }

low : (c : goal.After-self-2-1) → level_of c.loop-last.self-inside.entries.items ≤ c.args.level
low c =
    let es = c.loop-last.self-inside.entries.items in
    let read : slice_get es (length es - 1) ≡ slice_get c.deref.result.now (length c.deref.result.now - 1) =
    ap (λ (xs : List Entry). slice_get xs (length xs - 1)) (sym c.deref.ensures.value) in
    elim c.match-copied.branch [
      | in-Some+then-last-level w ↦ top_some es w.in-Some.last c.args.level
          (read ∙ (sym c.last.ensures.value ∙ sym w.in-Some.ensures)) w.if-last-level.true
      | in_default w ↦ top_none es c.args.level (read ∙ (sym c.last.ensures.value ∙ sym w.in_default.ensures))
    ]

left : (c : goal.After-self-2-1) → (c.loop-last.self-inside.entries.items ≡ up_to c.args.level c.self.inside.entries.items)
    × (min c.args.level (level_of c.self.inside.entries.items) ≡ level_of c.loop-last.self-inside.entries.items)
left c =
    let start = c.self.inside in
    let kept = c.loop-last.invariant in
    left_is start.variables start.clauses c.args.level start.entries.items c.loop-last.self-inside.entries.items
    c.self.invariant.0.stand kept.front kept.short (low c) kept.top kept.left

pub invariant_of-self : goal.invariant_of-self
invariant_of-self c =
    let start = c.self.inside in
    let now = c.loop-last.self-inside in
    let kept = c.loop-last.invariant in
    let t = seen start in
    let reached : min c.args.level start.level ≡ level_of now.entries.items =
    ap (min c.args.level) c.self.invariant.0.level_reached ∙ (left c).1 in
    let level = c.min-self-inside.ensures ∙ ap (min c.args.level) kept.level in (
      subst IsSound (sym (state_same kept.variables kept.clauses refl level kept.broken))
          (sound_left t c.args.level now.entries.items c.self.invariant.0 kept.front reached),
      kept.table,
      kept.truths,
    )

pub returns-clause-value : goal.returns-clause-value
returns-clause-value c =
    let kept = c.loop-last.invariant in
    state_same kept.variables kept.clauses (left c).0 (c.min-self-inside.ensures ∙ ap (min c.args.level) kept.level) kept.broken
    ∙ ap (λ (t : TrailState). undone t c.args.level) c.self.view_is

pub returns-clause-sound : goal.returns-clause-sound
returns-clause-sound c = (invariant_of-self c).0
