use Rattle.std.proofs.Common.{◌≡◌, ◌∙◌, ◌||◌, false, get_or, length, arith, add-one, sym, ap}
use Rattle.std.proofs.Math.ListN.{length-set}
use Rattle.obligations.specs.Numbers.{choice_keys}
use Rattle.obligations.specs.internal.Rounds.{lent_keys, is_kept}
use Rattle.obligations.proofs.KeepLemmas.{weight_at, flags_step, flags_end, found_step, length-keys}
use Rattle.obligations.proofs.rounds.keep.Goals as goal

pub is_kept-kept-requires : goal.is_kept-kept-requires
is_kept-kept-requires c = weight_at c.args.choices.now _ _ c.index-choices-place.result c.requires.weights c.loop-place-test.true
    c.index-choices-place.is

pub loop-place-preserved : goal.loop-place-preserved
loop-place-preserved c =
    let test = is_kept (lent_keys c.args.lighter.now) c.args.round in
    let within = c.loop-place-test.true in
    let here = c.index-choices-place in
    rw add-one (record {
      found = found_step test c.args.choices.now c.loop-place.place here.result _ _ c.is_kept-kept.result within here.is
          c.is_kept-kept.ensures c.in_ok-push_if.ensures ∙ c.loop-place.invariant.found;
      flags = flags_step test c.loop-place.place c.args.choices.now c.loop-place.flags here.result _ within c.loop-place.invariant.long
          here.is (ap (λ b. get_or c.loop-place.flags c.loop-place.place false || b) c.is_kept-kept.ensures) ∙ c.loop-place.invariant.flags;
      long = length-set _ _ _ ∙ c.loop-place.invariant.long;
    })

pub returns-clause-flags : goal.returns-clause-flags
returns-clause-flags c =
    let long : length (choice_keys c.args.choices.now) ≡ length c.args.choices.now = length-keys c.args.choices.now in
    sym (flags_end (is_kept (lent_keys c.args.lighter.now) c.args.round) c.loop-place.place
    (choice_keys c.args.choices.now) c.loop-place.flags (omega (arith, long, c.loop-place-test.false)))
    ∙ c.loop-place.invariant.flags
