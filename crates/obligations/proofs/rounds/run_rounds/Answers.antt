use Rattle.std.proofs.Common.{◌∙◌, add-one, ap, refl}
use Rattle.obligations.specs.internal.Rounds.{lent_keys}
use Rattle.obligations.proofs.KeepLemmas.{lighter_step, round_step}
use Rattle.obligations.proofs.rounds.run_rounds.Goals as goal

pub loop-round-init : goal.loop-round-init
loop-round-init c = record { lighter = ap lent_keys c.new-lighter.ensures.items; flags = refl; long = c.requires.flags }

pub loop-round-preserved : goal.loop-round-preserved
loop-round-preserved c =
    let was = c.loop-round.invariant in
    let seen = ap lent_keys c.as_slice.ensures.value ∙ was.lighter in
    rw add-one (record {
      lighter = lighter_step c.args.choices.now c.loop-round.round _ _ _ _ _ was.lighter seen c.in_ok-append.ensures.items
          c.new-found.ensures.items c.in_ok-keep.ensures.found;
      flags = round_step c.args.choices.now c.loop-round.round _ _ _ _ seen was.flags c.in_ok-keep.ensures.flags;
      long = c.keep.auto.flags ∙ was.long;
    })
