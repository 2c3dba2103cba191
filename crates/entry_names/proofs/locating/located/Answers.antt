use Rattle.std.proofs.Common.{map, arith}
use Rattle.std.proofs.lemmas.List.{length-map}
use Rattle.entry_names.proofs.Located.{are_once, are_located, repeat_within, second_entry}
use Rattle.entry_names.proofs.locating.located.Goals as goal

pub returns-in-Ok-clause-once : goal.returns-in-Ok-clause-once
returns-in-Ok-clause-once g c =
    are_once c.args.names.now c.args.needed.now (map g.E.Named.subject c.args.entries.now) c.in_ok-numbers.numbers.items
    c.in_ok-numbers.ensures.known c.in_ok-numbers.ensures.numbers (rw c.deref-2.ensures.value at c.in-Ok.ensures.once)

pub name_at-token-requires : goal.name_at-token-requires
name_at-token-requires g c =
    let inside = repeat_within c.args.names.now c.args.needed.now (map g.E.Named.subject c.args.entries.now)
    c.in_ok-numbers.numbers.items c.in_ok-numbers.ensures.known c.in_ok-numbers.ensures.numbers c.in-Err-Repeat.at
    (rw (c.deref-2.ensures.value, c.in-Err-Repeat.field-0-is) at c.in-Err-Repeat.ensures.fault) in
    omega (arith, inside, length-map c.args.entries.now g.E.Named.subject)

pub returns-in-Err-Repeat-clause-fault : goal.returns-in-Err-Repeat-clause-fault
returns-in-Err-Repeat-clause-fault g c =
    second_entry c.args.names.now c.args.needed.now (map g.E.Named.subject c.args.entries.now) c.in_ok-numbers.numbers.items
    c.in_ok-numbers.ensures.known c.in_ok-numbers.ensures.numbers c.name_at-token.result c.in-Err-Repeat.at
    (rw (c.deref-2.ensures.value, c.in-Err-Repeat.field-0-is) at c.in-Err-Repeat.ensures.fault) c.name_at-token.ensures

pub returns-in-Ok-clause-located : goal.returns-in-Ok-clause-located
returns-in-Ok-clause-located g c =
    are_located c.args.names.now c.args.needed.now (map g.E.Named.subject c.args.entries.now) c.in_ok-numbers.numbers.items
    c.in_ok-numbers.ensures.known c.in_ok-numbers.ensures.numbers (rw c.deref-2.ensures.value at c.in-Ok.ensures.once)
    c.in-Ok.places.items (rw (c.deref-2.ensures.value, c.count-2.ensures.count) at c.in-Ok.ensures.ok)
