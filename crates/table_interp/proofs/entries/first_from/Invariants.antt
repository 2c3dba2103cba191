use Rattle.std.proofs.Common.{◌≡◌, drop, not}
use Rattle.std.specs.Prelude.{nat_lt}
use Rattle.std.specs.List.{find}
use Rattle.table_interp.proofs.entries.first_from.Given as goal

-- the first one is still to come
abbrev pub invariant-loop-number : goal.invariant-loop-number
invariant-loop-number l =
    find (λ v. not (nat_lt v l.limit)) l.numbers ≡ find (λ v. not (nat_lt v l.limit)) (drop l.number-index l.numbers)
