use Rattle.std.proofs.Common.{◌≡◌, ◌∙◌, ◌<◌, length, Some, true, false, sym, ap, subst, arith}
use Rattle.std.proofs.lemmas.Option.{slice_get-get_or, slice_get_within}
use Rattle.loop_acceptance.specs.declared.marks.Mark.TheVariants.{Red}
use Rattle.loop_acceptance.specs.internal.Product.{steps_in}
use Rattle.loop_acceptance.specs.internal.Search.{StepsBy, TurnsTo, AreClosed}
use Rattle.loop_acceptance.proofs.ChosenSteps.{rejects_by}
use Rattle.loop_acceptance.proofs.GoingOn.{red_stays, open_was}
use Rattle.loop_acceptance.proofs.TurningBack.{closed_stays, closed_more, turns_first, turns_on, first_on, next_on, met_turns, met_seen}
use Rattle.loop_acceptance.proofs.search.Search.turns_back.Goals as goal

pub returns-then-branch-clause-on : goal.returns-then-branch-clause-on
returns-then-branch-clause-on c =
    first_on (steps_in c.args.product.now) c.args.node c.args.self.now.marks c.meet_steps.new.self.marks
    c.args.self.now.red.items
    c.meet_steps.new.self.red.items c.in_ok-meet_steps.ensures.on

pub returns-then-branch-clause-found : goal.returns-then-branch-clause-found
returns-then-branch-clause-found c = λ same.
    let found = c.in_ok-meet_steps.ensures.found c.if-branch.true in
    (found.0, turns_first (steps_in c.args.product.now) c.args.node found.0 found.1, found.2)

pub loop-place-init : goal.loop-place-init
loop-place-init c =
    let step = steps_in c.args.product.now in
    let m0 = c.args.self.now.marks in
    let r0 = c.args.self.now.red.items in
    let m1 = c.meet_steps.new.self.marks in
    let r1 = c.meet_steps.new.self.red.items in
    let on = c.in_ok-meet_steps.ensures.on in
    let many : c.len-place.result ≡ length r0 = (let l = c.len-place.ensures in omega (arith, l)) in
    let grows = on.grows in (
      first_on step c.args.node m0 m1 r0 r1 on,
      closed_stays step (StepsBy step true c.args.node) m0 m1 r0 r1 c.len-place.result on (omega (arith, many))
          (subst (AreClosed step m0 r0) (sym many) c.requires.closed),
      λ q rejects. c.in_ok-meet_steps.ensures.met c.if-branch.false q (rejects_by step c.args.node q rejects),
      omega (arith, many),
      omega (arith, many, grows),
      c.meet_steps.ensures.frames,
    )

pub meet_steps-requires-in-loop-place-clause-within : goal.meet_steps-requires-in-loop-place-clause-within
meet_steps-requires-in-loop-place-clause-within c =
    let on = c.loop-place.invariant.0 in
    let at = slice_get-get_or c.loop-place.self.red.items c.loop-place.place c.index-next.result.now
    (let t = c.loop-place-test.true in let l = c.len.ensures in omega (arith, t, l)) ∙ ap Some (sym c.index-next.ensures) in
    let within = slice_get_within c.loop-place.self.marks c.index-next.result.now Red
    (on.are_red.marked c.loop-place.place c.index-next.result.now at) in
    let size = on.size in
    let all = c.requires.size in
    omega (arith, within, size, all)

pub meet_steps-requires-in-loop-place-clause-seen : goal.meet_steps-requires-in-loop-place-clause-seen
meet_steps-requires-in-loop-place-clause-seen c =
    let at = slice_get-get_or c.loop-place.self.red.items c.loop-place.place c.index-next.result.now
    (let t = c.loop-place-test.true in let l = c.len.ensures in omega (arith, t, l)) ∙ ap Some (sym c.index-next.ensures) in
    met_seen (steps_in c.args.product.now) c.args.node c.args.self.now.marks c.loop-place.self.marks c.args.self.now.red.items
    c.loop-place.self.red.items c.loop-place.place c.index-next.result.now c.loop-place.invariant.0 c.requires.all_seen at

pub returns-then-branch-2-clause-on : goal.returns-then-branch-2-clause-on
returns-then-branch-2-clause-on c =
    let step = steps_in c.args.product.now in
    let next = c.index-next.result.now in
    let at = slice_get-get_or c.loop-place.self.red.items c.loop-place.place next
    (let t = c.loop-place-test.true in let l = c.len.ensures in omega (arith, t, l)) ∙ ap Some (sym c.index-next.ensures) in
    let turns = met_turns step c.args.node c.args.self.now.marks c.loop-place.self.marks c.args.self.now.red.items
    c.loop-place.self.red.items c.loop-place.place next c.loop-place.invariant.0 c.loop-place.invariant.3 at in
    next_on step c.args.node next c.args.self.now.marks c.loop-place.self.marks
    c.meet_steps-in-loop-place.new.self.marks c.args.self.now.red.items c.loop-place.self.red.items
    c.meet_steps-in-loop-place.new.self.red.items turns c.loop-place.invariant.0 c.in_ok-meet_steps-2.ensures.on

pub returns-then-branch-2-clause-found : goal.returns-then-branch-2-clause-found
returns-then-branch-2-clause-found c = λ same.
    let step = steps_in c.args.product.now in
    let next = c.index-next.result.now in
    let at = slice_get-get_or c.loop-place.self.red.items c.loop-place.place next
    (let t = c.loop-place-test.true in let l = c.len.ensures in omega (arith, t, l)) ∙ ap Some (sym c.index-next.ensures) in
    let turns = met_turns step c.args.node c.args.self.now.marks c.loop-place.self.marks c.args.self.now.red.items
    c.loop-place.self.red.items c.loop-place.place next c.loop-place.invariant.0 c.loop-place.invariant.3 at in
    let found = c.in_ok-meet_steps-2.ensures.found c.if-branch-2.true in (
      found.0,
      turns_on step c.args.node next found.0 turns found.1,
      open_was (TurnsTo step c.args.node) c.args.self.now.marks c.args.self.now.red.items c.loop-place.self.marks
          c.loop-place.self.red.items c.loop-place.invariant.0 found.0 found.2,
    )

pub loop-place-preserved : goal.loop-place-preserved
loop-place-preserved c =
    let step = steps_in c.args.product.now in
    let next = c.index-next.result.now in
    let m0 = c.args.self.now.marks in
    let r0 = c.args.self.now.red.items in
    let m1 = c.loop-place.self.marks in
    let r1 = c.loop-place.self.red.items in
    let m2 = c.meet_steps-in-loop-place.new.self.marks in
    let r2 = c.meet_steps-in-loop-place.new.self.red.items in
    let within : c.loop-place.place < length r1 = (let t = c.loop-place-test.true in let l = c.len.ensures in omega (arith, t, l)) in
    let at = slice_get-get_or r1 c.loop-place.place next within ∙ ap Some (sym c.index-next.ensures) in
    let turns = met_turns step c.args.node m0 m1 r0 r1 c.loop-place.place next c.loop-place.invariant.0 c.loop-place.invariant.3 at in
    let on = c.in_ok-meet_steps-2.ensures.on in
    let grows = on.grows in
    let new = c.loop-place.invariant.3 in (
      next_on step c.args.node next m0 m1 m2 r0 r1 r2 turns c.loop-place.invariant.0 on,
      closed_more step (StepsBy step false next) m1 m2 r1 r2 c.loop-place.place next on c.loop-place.invariant.1 at
          (c.in_ok-meet_steps-2.ensures.met c.if-branch-2.false),
      λ q rejects. red_stays (StepsBy step false next) m1 r1 m2 r2 on q (c.loop-place.invariant.2 q rejects),
      omega (arith, new),
      omega (arith, within, grows),
      c.meet_steps-in-loop-place.ensures.frames ∙ c.loop-place.invariant.5,
    )

pub returns-clause-none : goal.returns-clause-none
returns-clause-none c = λ same.
    let few = c.loop-place.invariant.4 in
    let all : c.loop-place.place ≡ length c.loop-place.self.red.items = (let t = c.loop-place-test.false in let l = c.len.ensures in
    omega (arith, t, l, few)) in (
      subst (AreClosed (steps_in c.args.product.now) c.loop-place.self.marks c.loop-place.self.red.items) all
          c.loop-place.invariant.1,
      c.loop-place.invariant.2,
    )
