use Rattle.std.proofs.Common.{◌∙◌, ◌<◌, [], ◌∷◌, length, length-append, reverse, slice_index_or, slice_get, sym, ap, subst, arith}
use Rattle.std.proofs.lemmas.Option.{slice_get-get_or}
use Rattle.full_bound.specs.declared.search.Arrival.{Arrival}
use Rattle.full_bound.specs.internal.Turning.{IsSpelled}
use Rattle.full_bound.proofs.NeverBack.{way_on}
use Rattle.full_bound.proofs.turning.way_to.Goals as goal

pub loop-at-preserved : goal.loop-at-preserved
loop-at-preserved c =
    let arrivals = c.args.arrivals.now in
    let here : Arrival = slice_index_or arrivals c.loop-at.at (record { node = 0; previous = 0; letter = 0 }) in
    let is = slice_get-get_or arrivals c.loop-at.at (record { node = 0; previous = 0; letter = 0 }) c.loop-at.invariant.0 in
    let late : 0 < c.loop-at.at = (let t = c.loop-at-test.true in omega (arith, t)) in
    let before = c.requires.back c.loop-at.at here is late in (
      (let w = c.loop-at.invariant.0 in omega (arith, before, w)),
      (
          let few = c.loop-at.invariant.1 in
          let more = ap length c.in_ok-push.ensures.items ∙ length-append c.loop-at.letters.items (here.letter ∷ []) in
          omega (arith, before, few, more)
          ),
      λ steps nodes flags search a b at_a at_b.
          subst (λ ls. IsSpelled steps a.node b.node (reverse ls)) (sym c.in_ok-push.ensures.items)
          (way_on steps nodes flags arrivals c.loop-at.at c.args.place here a b c.loop-at.letters.items search is late at_a
          (c.loop-at.invariant.2 steps nodes flags search here b is at_b)),
    )

pub returns-clause-spelled : goal.returns-clause-spelled
returns-clause-spelled c = λ steps nodes flags search a b at_a at_b.
    let zero_at = c.loop-at-test.false in
    subst (IsSpelled steps a.node b.node) (sym c.reverse.ensures.items)
    (c.loop-at.invariant.2 steps nodes flags search a b (ap (slice_get c.args.arrivals.now) zero_at ∙ at_a) at_b)
