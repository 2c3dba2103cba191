use Rattle.std.proofs.Common.{◌≡◌, ◌*◌, ◌%◌, ◌^◌, drop, fold, bit_xor}
use Rattle.obligations.specs.Codes.{numbers_code}
use Rattle.obligations.proofs.numbered.code_of.Given as goal

-- the code so far, and then the numbers that are left, make the code of all
abbrev pub invariant-loop-number : goal.invariant-loop-number
invariant-loop-number l =
    fold (λ code n. (bit_xor code n * 1099511628211) % 2 ^ 64) l.code (drop l.number-index l.numbers) ≡ numbers_code l.numbers
