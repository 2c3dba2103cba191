use Rattle.std.proofs.Common.{◌≡◌, ◌∷◌, [], ◌++◌, length, Option, Some, sym, ap, refl, arith, ◌∙◌}
use Rattle.std.proofs.lemmas.List.{length_push}
use Rattle.sat_trail.specs.declared.watches.Pair.{Pair}
use Rattle.sat_trail.specs.declared.watches.Watches.{Watches}
use Rattle.sat_trail.specs.internal.Watching.{pair_of}
use Rattle.sat_trail.proofs.Stays.{lists_can}
use Rattle.sat_trail.proofs.Waiting.{watched_taken, watched_open}
use Rattle.sat_trail.proofs.watches.Watches.take_next.Goals as goal

pub attach-requires-clause-first : goal.attach-requires-clause-first
attach-requires-clause-first c = (lists_can c.requires.ready.sound c.requires.ready.watched c.in-Open.ensures.watch).0

pub attach-requires-clause-second : goal.attach-requires-clause-second
attach-requires-clause-second c = (lists_can c.requires.ready.sound c.requires.ready.watched c.in-Open.ensures.watch).1

pub of-requires : goal.of-requires
of-requires c = λ e. c.in-Open.ensures.watch.apart (sym e)

pub returns-in_ok-push-in-Open-clause-watched : goal.returns-in_ok-push-in-Open-clause-watched
returns-in_ok-push-in-Open-clause-watched c =
    let w = c.args.self.now in
    watched_open {v = record c.attach.new.self { pairs = c.push.new.self }} c.third_or-spare.result c.requires.ready.sound c.requires.ready.watched c.requires.more
    (omega (arith, c.len-number.ensures, w.pairs.ok.0)) c.in-Open.ensures c.clause.ensures.value c.third_or-spare.ensures c.in_ok-attach-in-Open.ensures.lists
    (c.in_ok-push-in-Open.ensures.items ∙ (ap (λ (x : Option Pair). c.attach.new.self.pairs.items ++ x ∷ []) c.of.ensures
    ∙ ap (λ (x : Watches). x.pairs.items ++ Some (pair_of c.in-Open.first c.in-Open.second c.third_or-spare.result) ∷ []) c.attach.ensures.rest))
    (ap (λ (x : Watches). record x { pairs = c.push.new.self }) c.attach.ensures.rest)

pub returns-in_ok-push-in_default-2-clause-watched : goal.returns-in_ok-push-in_default-2-clause-watched
returns-in_ok-push-in_default-2-clause-watched c =
    let w = c.args.self.now in
    watched_taken c.args.stack.now w (record w { pairs = c.push-in_default-2.new.self; asides = c.push-in_default.new.self })
    c.requires.ready.watched c.requires.more c.requires.none (c.in_ok-push-in_default.ensures.items
    ∙ ap (λ n. w.asides.items ++ record { clause = n; level = 0 } ∷ [])
    (let e : c.len-number.result ≡ length w.pairs.items = omega (arith, c.len-number.ensures, w.pairs.ok.0) in e))
    (c.in_ok-push-in_default-2.ensures.items ∙ ap (λ (x : Option Pair). w.pairs.items ++ x ∷ []) c.none.ensures) refl

pub returns-in_ok-push-in_default-2-clause-left : goal.returns-in_ok-push-in_default-2-clause-left
returns-in_ok-push-in_default-2-clause-left c =
    let w = c.args.self.now in
    omega (
      arith,
      c.requires.more,
      c.requires.none,
      ap length c.in_ok-push-in_default.ensures.items,
      length_push w.asides.items (record { clause = c.len-number.result; level = 0 }),
      ap length c.in_ok-push-in_default-2.ensures.items,
      length_push w.pairs.items c.none.result,
    )
