-- How large numbers of a few digits are.
use Rattle.std.proofs.Common.{ℕ, ◌^◌, ◌<◌, ◌≤◌, arith}
use Rattle.std.proofs.Math.Nat.{pow-le-pow_right}

pub few_digits : (value i n : ℕ) → value < 10 ^ i → i ≤ n → value < 10 ^ n
few_digits value i n below few = omega (arith, below, pow-le-pow_right {n = 10} (let some : 0 < 10 = omega arith in some) few)
