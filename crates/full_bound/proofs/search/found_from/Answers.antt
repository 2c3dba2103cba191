use Rattle.std.proofs.Common.{◌∙◌, length, Some, true, slice_get, refl, sym, ap, arith}
use Rattle.std.proofs.lemmas.Option.{slice_get-get_or, slice_get_within}
use Rattle.full_bound.specs.internal.Search.{steps_from}
use Rattle.full_bound.specs.declared.search.Arrival.{Arrival}
use Rattle.full_bound.proofs.SearchGoesOn.{begun, visited, finished}
use Rattle.full_bound.proofs.search.found_from.Goals as goal

pub loop-place-init : goal.loop-place-init
loop-place-init c =
    let a : Arrival = record { node = c.args.from; previous = 0; letter = 0 } in
    let start = begun (steps_from c.args.table.now) (length c.args.table.now) c.in_ok-vec.field-0.items c.arrive.new.self.flags.items
    c.new.result.items c.arrive.new.self.arrivals.items a
    (c.in_ok-vec.ensures.items_if_clones_equal (λ y e. e)) c.new.ensures.items c.requires.within
    c.in_ok-arrive.ensures.flags c.in_ok-arrive.ensures.arrivals in (
      start.0,
      λ i b below. absurd (omega (arith, below)),
      start.2,
      (a, ap (λ arrivals. slice_get arrivals 0) start.1, refl),
    )

pub visit-requires-clause-within : goal.visit-requires-clause-within
visit-requires-clause-within c =
    let search = c.loop-place.invariant.0 in
    let at = slice_get-get_or c.loop-place.search.arrivals.items c.loop-place.place c.index.result.now
    (let l = c.loop-place-test.true in let k = c.len.ensures in omega (arith, l, k)) ∙ ap Some (sym c.index.ensures) in
    let within = slice_get_within c.loop-place.search.flags.items c.index.result.now.node true
    (search.flagged c.loop-place.place c.index.result.now at) in
    let size = search.size in
    omega (arith, within, size)

pub visit-requires-clause-here : goal.visit-requires-clause-here
visit-requires-clause-here c = (
  c.index.result.now,
  slice_get-get_or c.loop-place.search.arrivals.items c.loop-place.place c.index.result.now
      (let l = c.loop-place-test.true in let k = c.len.ensures in omega (arith, l, k)) ∙ ap Some (sym c.index.ensures),
  refl,
)

pub loop-place-preserved : goal.loop-place-preserved
loop-place-preserved c =
    let first = c.loop-place.invariant.3 in
    let at = slice_get-get_or c.loop-place.search.arrivals.items c.loop-place.place c.index.result.now
    (let l = c.loop-place-test.true in let k = c.len.ensures in omega (arith, l, k)) ∙ ap Some (sym c.index.ensures) in (
      c.in_ok-visit.ensures.on.search,
      visited (steps_from c.args.table.now) (length c.args.table.now) c.loop-place.search.flags.items c.visit.new.search.flags.items
          c.loop-place.search.arrivals.items c.visit.new.search.arrivals.items c.loop-place.place c.index.result.now
          c.loop-place.invariant.1 c.in_ok-visit.ensures.on at c.in_ok-visit.ensures.flagged,
      (let so_far = c.loop-place.invariant.2 in let less = c.in_ok-visit.ensures.on.less in omega (arith, so_far, less)),
      (first.0, c.in_ok-visit.ensures.on.arrivals_stay 0 first.0 first.1, first.2),
    )

pub returns-clause-searched : goal.returns-clause-searched
returns-clause-searched c =
    finished (steps_from c.args.table.now) (length c.args.table.now) c.loop-place.search.flags.items c.loop-place.search.arrivals.items
    c.loop-place.place c.loop-place.invariant.0 c.loop-place.invariant.1 (let past = c.loop-place-test.false in omega (arith, past))
