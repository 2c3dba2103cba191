use Rattle.std.proofs.Common.{◌^◌}
use Rattle.std.proofs.Math.Pow.{pow_mono}
use Rattle.bounded_encoding.proofs.Gathering.{not_reached}
use Rattle.bounded_encoding.proofs.controller_side.reaches.Goals as goal

pub returns-else-bits-lt64 : goal.returns-else-bits-lt64
returns-else-bits-lt64 c = not_reached c.args.bits (2 ^ c.args.bits) (2 ^ 64) c.args.number c.if-bits-lt64.false
    (pow_mono c.if-bits-lt64.false) c.ranges.number.fits
