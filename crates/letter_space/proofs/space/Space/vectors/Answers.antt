use Rattle.std.proofs.Common.{◌≡◌, ◌≤◌, ◌*◌, ◌+◌, ◌∙◌, true, cond, nat_le, map, Some, None, ap, arith}
use Rattle.std.specs.List.{list_all}
use Rattle.letter_space.specs.declared.limits.TheConstants.{MOST_VECTORS}
use Rattle.letter_space.specs.SpaceTree.{has_choice}
use Rattle.letter_space.specs.ControlledView.{controlled_tree}
use Rattle.letter_space.specs.Vectors.{vector_count}
use Rattle.std.proofs.lemmas.Nat.{mul-le}
use Rattle.letter_space.proofs.Bounds.{item_bits, vectors_left, counted_next, too_many}
use Rattle.letter_space.proofs.space.Space.vectors.Goals as goal

pub overflow_cast-count : goal.overflow_cast-count
overflow_cast-count c =
    let bits = item_bits c.args.self.now.predicates c.as_slice-controlled-items.result.now c.loop-controlled.controlled-index
    c.controlled-item.result (rw c.as_slice-controlled-items.ensures c.args.self.now.is_space)
    c.loop-controlled-test.true c.controlled-item.is in
    omega (arith, bits, c.len.ensures)

pub overflow_mul-count : goal.overflow_mul-count
overflow_mul-count c =
    let bits = item_bits c.args.self.now.predicates c.as_slice-controlled-items.result.now c.loop-controlled.controlled-index
    c.controlled-item.result (rw c.as_slice-controlled-items.ensures c.args.self.now.is_space)
    c.loop-controlled-test.true c.controlled-item.is in
    let few : c.loop-controlled.count * c.len.result ≤ 1024 * 64 =
    mul-le c.loop-controlled.count c.len.result 1024 64 c.loop-controlled.invariant.0 (omega (arith, bits, c.len.ensures)) in
    omega (arith, few)

pub returns-then-count-gt-MOST_VECTORS : goal.returns-then-count-gt-MOST_VECTORS
returns-then-count-gt-MOST_VECTORS c =
    let items = c.as_slice-controlled-items.result.now in
    let chosen : list_all has_choice (map controlled_tree items) ≡ true =
    ap (λ xs. list_all has_choice (map controlled_tree xs)) c.as_slice-controlled-items.ensures ∙ c.args.self.now.is_space.chosen in
    let counted = counted_next items c.loop-controlled.controlled-index c.controlled-item.result
    c.loop-controlled.count c.loop-controlled-test.true c.controlled-item.is in
    too_many items (c.loop-controlled.controlled-index + 1) (c.loop-controlled.count * c.len.result) chosen c.if-count-gt-MOST_VECTORS.true
    (ap (λ n. (c.loop-controlled.count * n) * vectors_left items (c.loop-controlled.controlled-index + 1)) c.len.ensures
    ∙ counted ∙ c.loop-controlled.invariant.1)
    ∙ ap (λ xs. cond (nat_le (vector_count (map controlled_tree xs)) MOST_VECTORS) (Some (vector_count (map controlled_tree xs))) None)
    c.as_slice-controlled-items.ensures
