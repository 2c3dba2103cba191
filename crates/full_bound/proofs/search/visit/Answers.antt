use Rattle.std.proofs.Common.{◌≡◌, ◌∙◌, ◌+◌, suc, length, take, slice_index_or, slice_get, Some, Contains, true, false, refl, sym, ap}
use Rattle.std.proofs.Common.{subst, arith}
use Rattle.std.specs.List.{AllByRecursion}
use Rattle.std.proofs.lemmas.Option.{slice_get-get_or}
use Rattle.base_library.proofs.Places.{contains_at, take_next}
use Rattle.full_bound.specs.declared.search.Step.{Step}
use Rattle.full_bound.specs.declared.search.Arrival.{Arrival}
use Rattle.full_bound.specs.internal.Search.{steps_from}
use Rattle.full_bound.proofs.SearchGoesOn.{one_more}
use Rattle.full_bound.proofs.search.visit.Goals as goal

pub arrive-requires : goal.arrive-requires
arrive-requires c =
    let steps = c.steps_at-steps.result.now in
    let s : Step = slice_index_or steps c.loop-step.step-index (record { letter = 0; to = 0; rejecting = false }) in
    let stands = contains_at steps c.loop-step.step-index s
    (slice_get-get_or steps c.loop-step.step-index (record { letter = 0; to = 0; rejecting = false }) c.loop-step-test.true) in
    let below = c.requires.stay c.args.node s (subst (λ xs. Contains xs s) c.steps_at-steps.ensures stands) in
    let size = c.loop-step.invariant.0.search.size in
    omega (arith, below, size)

pub loop-step-preserved : goal.loop-step-preserved
loop-step-preserved c =
    let steps = c.steps_at-steps.result.now in
    let i = c.loop-step.step-index in
    let s : Step = slice_index_or steps i (record { letter = 0; to = 0; rejecting = false }) in
    let at = slice_get-get_or steps i (record { letter = 0; to = 0; rejecting = false }) c.loop-step-test.true in
    let here = c.requires.here in
    let stands = subst (λ xs. Contains xs s) c.steps_at-steps.ensures (contains_at steps i s at) in
    let a : Arrival = record { node = s.to; previous = c.args.place; letter = s.letter } in
    let next : i + 1 ≡ suc i = omega arith in
    let made = one_more (steps_from c.args.table.now) (length c.args.table.now) c.args.search.now.flags.items c.loop-step.search.flags.items
    c.arrive.new.self.flags.items c.args.search.now.arrivals.items c.loop-step.search.arrivals.items c.arrive.new.self.arrivals.items
    here.0 a s
    (take i steps) c.loop-step.invariant here.1 (subst (λ n. Contains (steps_from c.args.table.now n) s) (sym here.2) stands) refl refl
    (c.requires.stay c.args.node s stands) c.in_ok-arrive.ensures.flags c.in_ok-arrive.ensures.arrivals in (
      made.0,
      subst (AllByRecursion (λ r. slice_get c.arrive.new.self.flags.items r.to ≡ Some true))
          (sym (ap (λ n. take n steps) next ∙ take_next steps i s at)) made.1,
    )
