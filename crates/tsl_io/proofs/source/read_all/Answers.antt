use Rattle.std.proofs.Common.{arith, refl, ap, length, length-append}
use Rattle.tsl_io.proofs.Handed.{whole_kept}
use Rattle.tsl_io.proofs.source.read_all.Goals as goal

pub returns-clause-text : goal.returns-clause-text
returns-clause-text g c = λ bytes is.
    let taken = c.in_ok-read_into.ensures.ok in
    whole_kept c.read_into.new.taker.items c.new-text.result.items taken.2.0 bytes _ _ (taken.2.3 c.new-text.result.items refl)
    c.new-text.ensures.items taken.2.2 (c.in_ok-read_into.ensures.none_left bytes is) is

pub returns-clause-within : goal.returns-clause-within
returns-clause-within g c =
    let taken = c.in_ok-read_into.ensures.ok in
    omega (
      arith,
      ap length (taken.2.3 c.new-text.result.items refl),
      length-append c.new-text.result.items taken.2.0,
      ap length c.new-text.ensures.items,
      taken.1,
      taken.2.1,
    )
