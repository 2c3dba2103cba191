use Rattle.std.proofs.Common.{◌≡◌, ◌∙◌, inl, inr, refl, sym, ap, subst, arith}
use Rattle.std.proofs.lemmas.Bool.{cases_lt}
use Rattle.std.proofs.lemmas.Option.{none-some}
use Rattle.loop_acceptance.specs.declared.marks.Mark.TheVariants.{Red}
use Rattle.loop_acceptance.specs.internal.Product.{steps_in}
use Rattle.loop_acceptance.specs.internal.Search.{asked_for, StepsBy, Is}
use Rattle.loop_acceptance.proofs.ChosenSteps.{chosen_is}
use Rattle.loop_acceptance.proofs.GoingOn.{goes_nowhere, goes_further, red_stays, open_was, seen_stays}
use Rattle.loop_acceptance.proofs.search.Search.meet_steps.Goals as goal

pub loop-place-init : goal.loop-place-init
loop-place-init c = (
  goes_nowhere (StepsBy (steps_in c.args.product.now) c.args.rejecting_alone c.args.node) c.args.self.now.marks
      c.args.self.now.red.items c.requires.red,
  λ k s less is. absurd (omega (arith, less)),
  refl,
)

pub meet_step-requires-clause-size : goal.meet_step-requires-clause-size
meet_step-requires-clause-size c = c.loop-place.invariant.0.size ∙ c.requires.size

pub meet_step-requires-clause-red : goal.meet_step-requires-clause-red
meet_step-requires-clause-red c = c.loop-place.invariant.0.are_red

pub meet_step-requires-clause-seen : goal.meet_step-requires-clause-seen
meet_step-requires-clause-seen c = λ k s is.
    seen_stays (StepsBy (steps_in c.args.product.now) c.args.rejecting_alone c.args.node) c.args.self.now.marks
    c.args.self.now.red.items c.loop-place.self.marks c.loop-place.self.red.items c.loop-place.invariant.0 s.to
    (c.requires.seen k s is)

pub returns-then-branch-clause-on : goal.returns-then-branch-clause-on
returns-then-branch-clause-on c =
    goes_further (StepsBy (steps_in c.args.product.now) c.args.rejecting_alone c.args.node) c.args.self.now.marks
    c.loop-place.self.marks c.meet_step.new.self.marks c.args.self.now.red.items c.loop-place.self.red.items
    c.meet_step.new.self.red.items c.loop-place.invariant.0 c.in_ok-meet_step.ensures.on

pub returns-then-branch-clause-found : goal.returns-then-branch-clause-found
returns-then-branch-clause-found c = λ is.
    let found = c.in_ok-meet_step.ensures.found c.if-branch.true in (
      found.0.to,
      (c.loop-place.place, found.0, found.1, refl),
      open_was (StepsBy (steps_in c.args.product.now) c.args.rejecting_alone c.args.node) c.args.self.now.marks
          c.args.self.now.red.items c.loop-place.self.marks c.loop-place.self.red.items c.loop-place.invariant.0 found.0.to found.2,
    )

pub loop-place-preserved : goal.loop-place-preserved
loop-place-preserved c = (
  goes_further (StepsBy (steps_in c.args.product.now) c.args.rejecting_alone c.args.node) c.args.self.now.marks
      c.loop-place.self.marks c.meet_step.new.self.marks c.args.self.now.red.items c.loop-place.self.red.items
      c.meet_step.new.self.red.items c.loop-place.invariant.0 c.in_ok-meet_step.ensures.on,
  λ k s less is. elim (cases_lt k c.loop-place.place) [
    | inl before ↦
        red_stays (StepsBy (steps_in c.args.product.now) c.args.rejecting_alone c.args.node) c.loop-place.self.marks
        c.loop-place.self.red.items c.meet_step.new.self.marks c.meet_step.new.self.red.items c.in_ok-meet_step.ensures.on s.to
        (c.loop-place.invariant.1 k s before is)
    | inr last ↦
        let e : c.loop-place.place ≡ k = omega (arith, last, less) in
        c.in_ok-meet_step.ensures.met c.if-branch.false s
        (ap (λ n. asked_for c.args.rejecting_alone (steps_in c.args.product.now c.args.node n)) e ∙ is)
  ],
  c.meet_step.ensures.frames ∙ c.loop-place.invariant.2,
)

pub returns-clause-met : goal.returns-clause-met
returns-clause-met c = λ no q by. elim (cases_lt by.0 c.loop-place.place) [
  | inl before ↦ subst (Is c.loop-place.self.marks Red) by.3 (c.loop-place.invariant.1 by.0 by.1 before by.2)
  | inr past ↦ absurd (none-some by.1 (sym (c.place_count-place-end.ensures.past by.0 (let t = c.loop-place-test.false in omega (
    arith,
    past,
    t,
  )))
      ∙ chosen_is c.args.rejecting_alone (steps_in c.args.product.now c.args.node by.0) by.1 by.2))
]
