use Rattle.std.proofs.Common.{◌≡◌, drop, nat_eq}
use Rattle.std.specs.List.{list_any}
use Rattle.obligations.proofs.numbered.stands_among.Given as goal

-- it is not among those gone through
abbrev pub invariant-loop-other : goal.invariant-loop-other
invariant-loop-other l = list_any (λ other. nat_eq other l.number) (drop l.other-index l.numbers) ≡ list_any (λ other. nat_eq other l.number) l.numbers
