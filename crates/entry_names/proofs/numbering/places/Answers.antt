use Rattle.std.proofs.Common.{◌<◌, List, ℕ, length, arith, subst}
use Rattle.std.proofs.lemmas.List.{take_all}
use Rattle.std.proofs.lemmas.List.Elements.{All-get_or}
use Rattle.entry_names.specs.Needed.{HasNoRepeat}
use Rattle.entry_names.proofs.Slots.{place_more, place_again}
use Rattle.entry_names.proofs.numbering.places.Goals as goal

pub returns-in-Some-clause-fault : goal.returns-in-Some-clause-fault
returns-in-Some-clause-fault c =
    let within : c.loop-place.place < length c.args.numbers.now = omega (arith, c.loop-place-test.true) in
    place_again c.args.count c.args.numbers.now c.loop-place.place 0 c.in-Some.field-0 c.loop-place.places.items within
    (All-get_or (λ n. n < c.args.count) c.args.numbers.now c.loop-place.place 0 within c.requires)
    (rw c.deref.ensures.value at c.in-Some.ensures) c.loop-place.invariant

pub loop-place-preserved : goal.loop-place-preserved
loop-place-preserved c =
    let within : c.loop-place.place < length c.args.numbers.now = omega (arith, c.loop-place-test.true) in
    place_more c.args.count c.args.numbers.now c.loop-place.place 0 c.loop-place.places.items within
    (All-get_or (λ n. n < c.args.count) c.args.numbers.now c.loop-place.place 0 within c.requires)
    (rw c.deref.ensures.value at c.in-None.ensures) c.loop-place.invariant

pub returns-clause-once : goal.returns-clause-once
returns-clause-once c =
    subst (λ (ns : List ℕ). HasNoRepeat ns)
    (take_all c.loop-place.place c.args.numbers.now (omega (arith, c.loop-place-test.false))) c.loop-place.invariant.once
