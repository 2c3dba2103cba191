use Rattle.std.proofs.Common.{◌≡◌, ◌+◌, ap, sym, subst, List, length, map, arith}
use Rattle.letter_space.specs.declared.controlled.Controlled.{Controlled}
use Rattle.letter_space.specs.ControlledView.{controlled_tree, space_with}
use Rattle.letter_space.specs.SpaceTree.{IsSpace, choice_count}
use Rattle.synthesis_commands.proofs.ChoiceCounts.{choices_left, next_counted, few_choices, none_left}
use Rattle.synthesis_commands.proofs.generating.update_count.Goals as goal

pub overflow_add-count : goal.overflow_add-count
overflow_add-count c =
    let items = c.as_slice-controlled-items.result.now in
    let kept : c.loop-controlled.count + choices_left items c.loop-controlled.controlled-index ≡ choices_left items 0 =
    c.loop-controlled.invariant in
    let next = next_counted items c.loop-controlled.controlled-index c.controlled-item.result c.loop-controlled-test.true
    c.controlled-item.is in
    let few = few_choices c.args.space.now.predicates items
    (subst (λ (xs : List Controlled). IsSpace (space_with c.args.space.now.predicates xs)) (sym c.as_slice-controlled-items.ensures)
    c.args.space.now.is_space) in
    omega (arith, kept, next, few, ap length c.as_slice.ensures)

pub loop-controlled-preserved : goal.loop-controlled-preserved
loop-controlled-preserved c =
    let items = c.as_slice-controlled-items.result.now in
    let kept : c.loop-controlled.count + choices_left items c.loop-controlled.controlled-index ≡ choices_left items 0 =
    c.loop-controlled.invariant in
    let next = next_counted items c.loop-controlled.controlled-index c.controlled-item.result c.loop-controlled-test.true
    c.controlled-item.is in
    omega (arith, kept, next, ap length c.as_slice.ensures)

pub returns : goal.returns
returns c =
    let items = c.as_slice-controlled-items.result.now in
    let kept : c.loop-controlled.count + choices_left items c.loop-controlled.controlled-index ≡ choices_left items 0 =
    c.loop-controlled.invariant in
    let none = none_left items c.loop-controlled.controlled-index c.loop-controlled-test.false in
    let whole : choices_left items 0 ≡ choice_count (map controlled_tree c.args.space.now.controlled) =
    ap (λ xs. choice_count (map controlled_tree xs)) c.as_slice-controlled-items.ensures in
    omega (arith, kept, none, whole)
