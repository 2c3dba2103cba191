use Rattle.std.proofs.Common.{◌<◌, length, arith}
use Rattle.std.proofs.lemmas.List.Elements.{All-get_or}
use Rattle.entry_names.proofs.Slots.{mark_more}
use Rattle.entry_names.proofs.numbering.marks.Goals as goal

pub loop-number-preserved : goal.loop-number-preserved
loop-number-preserved c =
    let within : c.loop-number.number-index < length c.args.numbers.now = omega (arith, c.loop-number-test.true) in
    mark_more c.args.count c.args.numbers.now c.loop-number.number-index 0 c.loop-number.marks.items within
    (All-get_or (λ n. n < c.args.count) c.args.numbers.now c.loop-number.number-index 0 within c.requires) c.loop-number.invariant
