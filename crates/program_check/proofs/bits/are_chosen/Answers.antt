use Rattle.std.proofs.Common.{arith}
use Rattle.letter_space.proofs.Bounds.{item_bits}
use Rattle.program_check.proofs.ChosenTerms.{unlike_count}
use Rattle.program_check.proofs.bits.are_chosen.Goals as goal

pub returns-then-len-terms : goal.returns-then-len-terms
returns-then-len-terms c =
    unlike_count c.args.space.now.controlled c.args.terms.now (λ same. c.if-len-terms.true (omega (arith, c.len.ensures, same)))

pub is_choice-requires : goal.is_choice-requires
is_choice-requires c =
    let bits = item_bits c.args.space.now.predicates c.as_slice-controlled-items.result.now c.loop-place.place
    c.controlled-item.result (rw c.as_slice-controlled-items.ensures c.args.space.now.is_space) c.loop-place-test.true
    c.controlled-item.is in
    omega (arith, bits)
