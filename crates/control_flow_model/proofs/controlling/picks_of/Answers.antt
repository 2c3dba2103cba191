use Rattle.std.proofs.Common.{◌≡◌, ◌∙◌, true, length, map, sym, ap, arith}
use Rattle.std.proofs.lemmas.List.{length-map}
use Rattle.tsl_terms.specs.TermTree.{term_tree}
use Rattle.letter_space.specs.ControlledView.{controlled_tree}
use Rattle.letter_space.proofs.Bounds.{item_bits}
use Rattle.control_flow_model.specs.ProgramBits.{are_terms_chosen}
use Rattle.control_flow_model.specs.ControllerOf.{terms_picked}
use Rattle.control_flow_model.proofs.PickedTerms.{chosen_count, term_is_chosen, picked_more, picked_all}
use Rattle.control_flow_model.proofs.controlling.picks_of.Goals as goal

pub bounds-terms-place : goal.bounds-terms-place
bounds-terms-place c =
    let count = chosen_count (map controlled_tree c.args.space.now.controlled) (map term_tree c.args.terms.now) c.requires in
    omega (
      arith,
      count,
      length-map c.args.space.now.controlled controlled_tree,
      length-map c.args.terms.now term_tree,
      ap length c.as_slice-controlled-items.ensures,
      c.loop-place-test.true,
    )

pub pick_of-requires-clause-few : goal.pick_of-requires-clause-few
pick_of-requires-clause-few c =
    let bits = item_bits c.args.space.now.predicates c.as_slice-controlled-items.result.now c.loop-place.place
    c.controlled-item.result (rw c.as_slice-controlled-items.ensures c.args.space.now.is_space) c.loop-place-test.true
    c.controlled-item.is in
    omega (arith, bits)

pub pick_of-requires-clause-chosen : goal.pick_of-requires-clause-chosen
pick_of-requires-clause-chosen c =
    let items = c.as_slice-controlled-items.result.now in
    let chosen : are_terms_chosen (map controlled_tree items) (map term_tree c.args.terms.now) ≡ true =
    ap (λ xs. are_terms_chosen (map controlled_tree xs) (map term_tree c.args.terms.now)) c.as_slice-controlled-items.ensures
    ∙ c.requires in
    let count = chosen_count (map controlled_tree items) (map term_tree c.args.terms.now) chosen in
    term_is_chosen items c.args.terms.now c.loop-place.place c.controlled-item.result c.index-terms-place.result
    c.loop-place-test.true c.controlled-item.is
    (omega (arith, count, length-map items controlled_tree, length-map c.args.terms.now term_tree, c.loop-place-test.true))
    c.index-terms-place.is chosen

pub loop-place-preserved : goal.loop-place-preserved
loop-place-preserved c =
    let items = c.as_slice-controlled-items.result.now in
    let chosen : are_terms_chosen (map controlled_tree items) (map term_tree c.args.terms.now) ≡ true =
    ap (λ xs. are_terms_chosen (map controlled_tree xs) (map term_tree c.args.terms.now)) c.as_slice-controlled-items.ensures
    ∙ c.requires in
    let count = chosen_count (map controlled_tree items) (map term_tree c.args.terms.now) chosen in
    rw c.in_ok-push.ensures.items
    (picked_more items c.args.terms.now c.loop-place.place c.controlled-item.result c.index-terms-place.result
    c.loop-place-test.true c.controlled-item.is
    (omega (arith, count, length-map items controlled_tree, length-map c.args.terms.now term_tree, c.loop-place-test.true))
    c.index-terms-place.is c.loop-place.picks.items c.pick_of.result c.loop-place.invariant c.pick_of.ensures)

pub returns : goal.returns
returns c =
    let items = c.as_slice-controlled-items.result.now in
    let chosen : are_terms_chosen (map controlled_tree items) (map term_tree c.args.terms.now) ≡ true =
    ap (λ xs. are_terms_chosen (map controlled_tree xs) (map term_tree c.args.terms.now)) c.as_slice-controlled-items.ensures
    ∙ c.requires in
    ap (λ xs. terms_picked (map controlled_tree xs) c.loop-place.picks.items) (sym c.as_slice-controlled-items.ensures)
    ∙ picked_all items c.args.terms.now c.loop-place.place c.loop-place.picks.items c.loop-place-test.false chosen c.loop-place.invariant
