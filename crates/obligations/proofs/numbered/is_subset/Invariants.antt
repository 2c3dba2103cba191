use Rattle.std.proofs.Common.{◌≡◌, drop, nat_eq}
use Rattle.obligations.specs.Choices.{is_subset}
use Rattle.obligations.proofs.numbered.is_subset.Given as goal

-- those gone through are in the other list
abbrev pub invariant-loop-number : goal.invariant-loop-number
invariant-loop-number l = is_subset nat_eq (drop l.number-index l.small) l.large ≡ is_subset nat_eq l.small l.large
