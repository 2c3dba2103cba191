use Rattle.std.proofs.Common.{set, sym, ap, inl, inr, refl}
use Rattle.std.specs.Vec.{with_item}
use Rattle.sat_trail.specs.declared.watches.Watches.{Watches}
use Rattle.sat_trail.proofs.Stays.{lists_can}
use Rattle.sat_trail.proofs.Waiting.{rewatches_both, both_puts, watched_by}
use Rattle.sat_trail.proofs.watches.Watches.watch_both.Goals as goal

pub attach-requires-clause-first : goal.attach-requires-clause-first
attach-requires-clause-first c = (lists_can c.requires.sound c.requires.watched c.requires.literals).0

pub attach-requires-clause-second : goal.attach-requires-clause-second
attach-requires-clause-second c = (lists_can c.requires.sound c.requires.watched c.requires.literals).1

pub of-requires : goal.of-requires
of-requires c = λ e. c.requires.literals.apart (sym e)

pub returns-clause-rest : goal.returns-clause-rest
returns-clause-rest c =
    let b = c.attach.new.self in
    let v = record b { pairs = with_item b.pairs c.args.number c.of.result } in
    rewatches_both {b = b} v c.args.first c.args.second c.requires.watched c.requires.waits c.attach.ensures.rest
    (ap (set b.pairs.items c.args.number) c.of.ensures) c.requires.sound c.requires.literals c.in_ok-attach.ensures.lists
    (ap (λ (x : Watches). record x { pairs = v.pairs }) c.attach.ensures.rest)

pub returns-clause-pair : goal.returns-clause-pair
returns-clause-pair c =
    let b = c.attach.new.self in
    let puts = both_puts {b = b} (record b { pairs = with_item b.pairs c.args.number c.of.result }) c.args.first c.args.second c.requires.watched
    c.requires.waits c.attach.ensures.rest (ap (set b.pairs.items c.args.number) c.of.ensures) in
    watched_by puts.here (inl refl) (inr refl) c.requires.literals.apart
