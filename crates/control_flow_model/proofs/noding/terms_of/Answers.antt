use Rattle.std.proofs.Common.{List, ◌∙◌, ◌<◌, length, get_or, map, Some, sym, ap, subst, arith}
use Rattle.tsl_terms.specs.declared.term.Term.{Term}
use Rattle.tsl_terms.specs.TermTree.{term_tree}
use Rattle.letter_space.specs.declared.controlled.Controlled.{Controlled}
use Rattle.letter_space.specs.ControlledView.{controlled_tree}
use Rattle.letter_space.specs.Letters.{ArePicks}
use Rattle.letter_space.proofs.Bounds.{picks_length, pick_within}
use Rattle.control_flow_model.specs.ControllerOf.{terms_picked}
use Rattle.control_flow_model.proofs.NodeLemmas.{picked_term, picked_end}
use Rattle.control_flow_model.proofs.noding.terms_of.Goals as goal

pub bounds-picks-place : goal.bounds-picks-place
bounds-picks-place c =
    let count = picks_length c.args.space.now.controlled c.args.picks.now c.requires in
    omega (arith, count, ap length c.as_slice-controlled-items.ensures, c.loop-place-test.true)

pub term_of-requires : goal.term_of-requires
term_of-requires c =
    let are = subst (λ xs. ArePicks (map controlled_tree xs) c.args.picks.now) (sym c.as_slice-controlled-items.ensures) c.requires in
    let below = pick_within c.as_slice-controlled-items.result.now c.args.picks.now c.loop-place.place c.controlled-item.result are
    c.loop-place-test.true in
    subst (λ (x : Controlled). get_or c.args.picks.now c.loop-place.place 0 < length x.choices) (sym c.controlled-item.is) below

pub loop-place-preserved : goal.loop-place-preserved
loop-place-preserved c =
    let items = c.as_slice-controlled-items.result.now in
    let count = picks_length c.args.space.now.controlled c.args.picks.now c.requires in
    picked_term items c.args.picks.now c.loop-place.place c.controlled-item.result c.loop-place.terms.items c.in_ok-term_of.field-0
    c.loop-place-test.true (omega (arith, count, ap length c.as_slice-controlled-items.ensures, c.loop-place-test.true))
    c.controlled-item.is c.loop-place.invariant c.in_ok-term_of.ensures
    ∙ ap (λ ts. Some (map term_tree ts)) (sym {A = List Term} c.in_ok-push.ensures.items)

pub returns : goal.returns
returns c =
    let items = c.as_slice-controlled-items.result.now in
    let count = picks_length c.args.space.now.controlled c.args.picks.now c.requires in
    ap (λ xs. terms_picked (map controlled_tree xs) c.args.picks.now) (sym c.as_slice-controlled-items.ensures)
    ∙ picked_end items c.args.picks.now c.loop-place.place c.loop-place.terms.items c.loop-place-test.false
    (count ∙ sym (ap length c.as_slice-controlled-items.ensures)) c.loop-place.invariant
