use Rattle.std.proofs.Common.{◌≡◌, ◌∙◌, inl, inr, length, Some, true, slice_get, sym, ap, subst, arith}
use Rattle.std.specs.List.{AllByRecursion}
use Rattle.std.proofs.lemmas.Bool.{cases_lt}
use Rattle.std.proofs.lemmas.Option.{slice_get-get_or, slice_get_within, same_Some}
use Rattle.full_bound.specs.internal.Search.{steps_from, IsSearch}
use Rattle.full_bound.specs.internal.Turning.{IsSpelled, NeverBack}
use Rattle.full_bound.proofs.NeverBack.{turn_made, no_turn, if_some, if_none}
use Rattle.full_bound.proofs.turning.turn_in.Goals as goal

pub return_to-requires-clause-within : goal.return_to-requires-clause-within
return_to-requires-clause-within c =
    let at = slice_get-get_or c.in_ok-first.first.arrivals.items c.loop-place.place c.index.result.now
    (let l = c.len-place-end.ensures in let t = c.loop-place-test.true in omega (arith, l, t))
    ∙ ap Some (sym c.index.ensures) in
    let flagged = c.in_ok-first.ensures.searched.search.flagged c.loop-place.place c.index.result.now at in
    let within = slice_get_within c.in_ok-first.first.flags.items c.index.result.now.node true flagged in
    let size = c.in_ok-first.ensures.searched.search.size in omega (arith, within, size)

pub returns-in-Some-clause-some : goal.returns-in-Some-clause-some
returns-in-Some-clause-some c =
    let steps = steps_from c.args.table.now in
    let first = c.in_ok-first.ensures.first in
    let searched = c.in_ok-first.ensures.searched in
    let back = if_some _ _ _ c.in-Some.is c.in_ok-found.ensures.some in
    let at = slice_get-get_or c.in_ok-first.first.arrivals.items c.loop-place.place c.index.result.now
    (let l = c.len-place-end.ensures in let t = c.loop-place-test.true in omega (arith, l, t))
    ∙ ap Some (sym c.index.ensures) in
    let there = c.deref.ensures.value in
    let stem = c.in_ok-stem.ensures.spelled steps (length c.args.table.now) c.in_ok-first.first.flags.items
    (subst (IsSearch steps (length c.args.table.now) c.in_ok-first.first.flags.items) (sym there) searched.search) first.0
    c.index.result.now
    (ap (λ xs. slice_get xs 0) there ∙ first.1) (ap (λ xs. slice_get xs c.loop-place.place) there ∙ at) in
    turn_made steps (length c.args.table.now) c.index.result.now.node c.in-Some.found.step c.in_ok-stem.stem.items c.in_ok-turn.turn.items
    c.insert.new.self.items
    (subst (λ n. IsSpelled steps n c.index.result.now.node c.in_ok-stem.stem.items) first.2 stem) back.0 back.1
    (c.in_ok-turn.ensures steps (length c.args.table.now) c.in-Some.found.step.to back.2.search back.4 back.3)
    c.in_ok-insert.ensures.items

pub loop-place-preserved : goal.loop-place-preserved
loop-place-preserved c = λ i a less is. elim (cases_lt i c.loop-place.place) [
  | inl old ↦ c.loop-place.invariant i a old is
  | inr last ↦
      let at = slice_get-get_or c.in_ok-first.first.arrivals.items c.loop-place.place c.index.result.now
      (let l = c.len-place-end.ensures in let t = c.loop-place-test.true in omega (arith, l, t))
      ∙ ap Some (sym c.index.ensures) in
      let e : i ≡ c.loop-place.place = omega (arith, last, less) in
      let same : c.index.result.now ≡ a = same_Some c.index.result.now a (sym at ∙ ap (slice_get c.in_ok-first.first.arrivals.items)
      (sym e) ∙ is) in
      subst (λ b. AllByRecursion (NeverBack (steps_from c.args.table.now) b.node) (steps_from c.args.table.now b.node)) same
      (if_none _ _ c.in_default.is c.in_ok-found.ensures.none)
]

pub returns-clause-none : goal.returns-clause-none
returns-clause-none c =
    no_turn (steps_from c.args.table.now) (length c.args.table.now) c.in_ok-first.first.flags.items c.in_ok-first.first.arrivals.items
    c.in_ok-first.ensures.searched c.in_ok-first.ensures.first
    (λ i a is. let w = slice_get_within c.in_ok-first.first.arrivals.items i a is in let past = c.loop-place-test.false in
    let l = c.len-place-end.ensures in
    c.loop-place.invariant i a (omega (arith, w, past, l)) is)
