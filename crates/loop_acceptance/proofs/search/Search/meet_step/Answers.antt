use Rattle.std.proofs.Common.{◌∙◌, refl, sym, subst, arith}
use Rattle.std.proofs.lemmas.Option.{same_Some}
use Rattle.loop_acceptance.specs.declared.product.Step.{Step}
use Rattle.loop_acceptance.specs.declared.marks.Mark.TheVariants.{Red}
use Rattle.loop_acceptance.specs.internal.Product.{steps_in}
use Rattle.loop_acceptance.specs.internal.Search.{StepsBy, Is}
use Rattle.loop_acceptance.proofs.ChosenSteps.{chosen_is}
use Rattle.loop_acceptance.proofs.GoingOn.{met_as, open_at}
use Rattle.loop_acceptance.proofs.ProductSteps.{step_within}
use Rattle.loop_acceptance.proofs.search.Search.meet_step.Goals as goal

pub meet-requires : goal.meet-requires
meet-requires c =
    let within = step_within c.args.product.now c.requires.product c.args.node c.args.place c.in-Some.step
    (chosen_is c.args.rejecting_alone (steps_in c.args.product.now c.args.node c.args.place) c.in-Some.step
    (sym c.chosen_step.ensures ∙ c.in-Some.is)) in
    let size = c.requires.size in
    omega (arith, within, size)

pub returns-in_ok-is_open-in-Some-clause-on : goal.returns-in_ok-is_open-in-Some-clause-on
returns-in_ok-is_open-in-Some-clause-on c =
    let step = steps_in c.args.product.now in
    let s = c.in-Some.step in
    let at = sym c.chosen_step.ensures ∙ c.in-Some.is in
    let seen = c.requires.seen c.args.place s (chosen_is c.args.rejecting_alone (step c.args.node c.args.place) s at) in
    (met_as (StepsBy step c.args.rejecting_alone c.args.node) c.args.self.now.marks c.args.self.now.red.items c.requires.red s.to
    (c.args.place, s, at, refl) seen c.meet.new.self.marks c.meet.new.self.red.items c.in_ok-is_open-in-Some.ensures.marks
    c.in_ok-is_open-in-Some.ensures.red).0

pub returns-in_ok-is_open-in-Some-clause-met : goal.returns-in_ok-is_open-in-Some-clause-met
returns-in_ok-is_open-in-Some-clause-met c = λ no t is.
    let step = steps_in c.args.product.now in
    let s = c.in-Some.step in
    let at = sym c.chosen_step.ensures ∙ c.in-Some.is in
    let seen = c.requires.seen c.args.place s (chosen_is c.args.rejecting_alone (step c.args.node c.args.place) s at) in
    subst (λ (x : Step). Is c.meet.new.self.marks Red x.to) (same_Some s t (sym at ∙ is))
    ((met_as (StepsBy step c.args.rejecting_alone c.args.node) c.args.self.now.marks c.args.self.now.red.items c.requires.red s.to
    (c.args.place, s, at, refl) seen c.meet.new.self.marks c.meet.new.self.red.items c.in_ok-is_open-in-Some.ensures.marks
    c.in_ok-is_open-in-Some.ensures.red).1 (sym c.in_ok-is_open-in-Some.ensures.tells ∙ no))

pub returns-in_ok-is_open-in-Some-clause-found : goal.returns-in_ok-is_open-in-Some-clause-found
returns-in_ok-is_open-in-Some-clause-found c = λ is_held.
    let step = steps_in c.args.product.now in
    let s = c.in-Some.step in
    let at = sym c.chosen_step.ensures ∙ c.in-Some.is in
    let seen = c.requires.seen c.args.place s (chosen_is c.args.rejecting_alone (step c.args.node c.args.place) s at) in
    (s, at, open_at c.args.self.now.marks s.to seen (sym c.in_ok-is_open-in-Some.ensures.tells ∙ is_held))
